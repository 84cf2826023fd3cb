-- Those so far, and those of the rest, are all.
use Rattle.std.proofs.Common.{◌≡◌, ◌++◌, drop}
use Rattle.two_phase_commit.specs.Reminding.{decides_for}
use Rattle.two_phase_commit.proofs.reminding.tell_again.Given as goal

abbrev pub invariant-loop-part : goal.invariant-loop-part
invariant-loop-part l = l.list.items ++ decides_for l.shard l.tx l.acknowledged_by (drop l.part-index l.parts) ≡ l.fn.list.items ++ decides_for l.shard l.tx l.acknowledged_by l.parts
