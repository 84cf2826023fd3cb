use Rattle.std.proofs.Common.{◌≡◌, ◌++◌, take}
use Rattle.lock_table.specs.Rows.{anchors_of}
use Rattle.shard_ops.proofs.locks.push_anchors.Given as goal

abbrev pub invariant-loop-need : goal.invariant-loop-need
invariant-loop-need l = l.anchors.items ≡ l.initial.anchors.items ++ anchors_of (take l.need-index l.needs)
