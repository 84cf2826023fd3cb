use Rattle.std.proofs.Common.{◌≤◌, length}
use Rattle.clv_base.specs.Logs.{standing}
use Rattle.clv_base.specs.Undo.{is_of}
use Rattle.cascade_undo.specs.Writes.{writes_of}
use Rattle.cascade_undo.specs.Steps.{AreBelow, Advances}
use Rattle.cascade_undo.proofs.compensating.compensate.Given as goal

abbrev pub invariant-loop-write : goal.invariant-loop-write
invariant-loop-write l = record {
  advances : Advances (is_of l.set) l.initial.buffer l.buffer;
  below : AreBelow l.set l.below (standing l.buffer.records);
  room : length (writes_of l.set (standing l.buffer.records)) ≤ l.buffer.room;
}

-- each turn takes away one of the writes that stand
abbrev pub decreases-loop-write : goal.decreases-loop-write
decreases-loop-write l = length (writes_of l.set (standing l.buffer.records))
