-- Those so far, and those of the rest, are all.
use Rattle.std.proofs.Common.{◌≡◌, ◌++◌, drop}
use Rattle.clv_base.specs.Coordinator.{prepares}
use Rattle.shard_core.proofs.requesting.prepares.Given as goal

abbrev pub invariant-loop-part : goal.invariant-loop-part
invariant-loop-part l = l.list.items ++ prepares l.shard l.tx (drop l.part-index l.touched) ≡ prepares l.shard l.tx l.touched
