use Rattle.std.proofs.Common.{◌≡◌, ◌≤◌, length}
use Rattle.std.specs.List.{filter}
use Rattle.clv_base.specs.Logs.{standing}
use Rattle.clv_base.specs.Undo.{is_at, newest_lsns, records_without}
use Rattle.cascade_undo.specs.Writes.{HaveRecordsBy}
use Rattle.cascade_undo.specs.Steps.{Advances, AreNewest}
use Rattle.cascade_undo.proofs.undoing.roll_to.Given as goal

-- those that are to go are the writes at these LSNs, and of them so many are left
abbrev pub invariant-loop-write : goal.invariant-loop-write
invariant-loop-write g l = record {
  advances : Advances (is_at (newest_lsns l.count l.tx (standing l.initial.buffer.records))) l.initial.buffer l.buffer;
  records : records_without (is_at (newest_lsns l.count l.tx (standing l.initial.buffer.records))) (standing l.buffer.records) (g.S.Store.records l.store)
      ≡ records_without (is_at (newest_lsns l.count l.tx (standing l.initial.buffer.records))) (standing l.initial.buffer.records) (g.S.Store.records l.initial.store);
  newest : AreNewest (is_at (newest_lsns l.count l.tx (standing l.initial.buffer.records))) l.left l.tx (standing l.buffer.records);
  there : HaveRecordsBy (is_at (newest_lsns l.count l.tx (standing l.initial.buffer.records))) (standing l.buffer.records) (g.S.Store.records l.store);
  room : length (filter (is_at (newest_lsns l.count l.tx (standing l.initial.buffer.records))) (standing l.buffer.records)) ≤ l.buffer.room;
  store_room : g.S.Store.room l.initial.store ≤ g.S.Store.room l.store;
}

abbrev pub decreases-loop-write : goal.decreases-loop-write
decreases-loop-write g l = l.left
