use Rattle.std.proofs.Common.{◌≡◌, ◌≤◌, length}
use Rattle.clv_base.specs.Logs.{standing}
use Rattle.clv_base.specs.Undo.{is_of, records_without}
use Rattle.cascade_undo.specs.Writes.{writes_of, HaveRecords}
use Rattle.cascade_undo.specs.Steps.{AreBelow, Advances}
use Rattle.cascade_undo.proofs.undoing.undo_writes.Given as goal

abbrev pub invariant-loop-write : goal.invariant-loop-write
invariant-loop-write g l = record {
  advances : Advances (is_of l.set) l.initial.buffer l.buffer;
  records : records_without (is_of l.set) (standing l.buffer.records) (g.S.Store.records l.store) ≡ records_without (is_of l.set) (standing l.initial.buffer.records) (g.S.Store.records l.initial.store);
  below : AreBelow l.set l.below (standing l.buffer.records);
  there : HaveRecords l.set (standing l.buffer.records) (g.S.Store.records l.store);
  room : length (writes_of l.set (standing l.buffer.records)) ≤ l.buffer.room;
  store_room : g.S.Store.room l.initial.store ≤ g.S.Store.room l.store;
}

-- each turn undoes one of the writes that stand
abbrev pub decreases-loop-write : goal.decreases-loop-write
decreases-loop-write g l = length (writes_of l.set (standing l.buffer.records))
