use Rattle.std.proofs.Common.{◌≡◌, ◌++◌}
use Rattle.turn_lock.specs.declared.view.Stage.TheVariants.{Idle}
use Rattle.turn_lock.proofs.Tells.{held}
use Rattle.turn_lock.proofs.pass.TurnLock.close.Given as goal

abbrev pub invariant-loop-other : goal.invariant-loop-other
invariant-loop-other g l = record {
  can : (goal.iterator-loop-other g).can_next l.other-iterator;
  finite : (goal.iterator-loop-other g).is_finite l.other-iterator;
  table : l.seat.table_id ≡ l.fn.self.table.shared.table_id;
  idle : l.seat.me.0.stage ≡ Idle;
  records : l.seat.me.0.records ≡ l.initial.seat.me.0.records ++ held l.yielded;
  all : l.yielded ++ l.other-iterator.rest.items ≡ l.initial.other-iterator.rest.items;
}
