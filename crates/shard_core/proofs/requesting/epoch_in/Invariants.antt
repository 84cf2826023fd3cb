-- It is not among those so far.
use Rattle.std.proofs.Common.{◌≡◌, drop}
use Rattle.clv_base.specs.Events.{epoch_in}
use Rattle.shard_core.proofs.requesting.epoch_in.Given as goal

abbrev pub invariant-loop-part : goal.invariant-loop-part
invariant-loop-part l = epoch_in l.shard (drop l.part-index l.touched) ≡ epoch_in l.shard l.touched
