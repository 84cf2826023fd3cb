-- There is no other among those so far.
use Rattle.std.proofs.Common.{◌≡◌, drop}
use Rattle.clv_base.specs.Coordinator.{others}
use Rattle.clv_base.specs.Events.{is_alone}
use Rattle.shard_core.proofs.requesting.is_only.Given as goal

abbrev pub invariant-loop-part : goal.invariant-loop-part
invariant-loop-part l = is_alone (others l.shard (drop l.part-index l.touched)) ≡ is_alone (others l.shard l.touched)
