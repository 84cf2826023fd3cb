use Rattle.std.proofs.Common.{◌≡◌, ◌<◌, ◌≤◌, ◌-◌, ℕ, [], vec_len, vec_capacity, slice_index_or}
use Rattle.turn_lock.specs.declared.view.Stage.TheVariants.{Idle}
use Rattle.turn_lock.specs.Rule.{new_records}
use Rattle.turn_lock.specs.Passes.{IsNewPass}
use Rattle.turn_lock.proofs.pass.TurnLock.deal.Given as goal

abbrev pub invariant-loop-given : goal.invariant-loop-given
invariant-loop-given g l = record {
  len : vec_len l.all ≡ l.given;
  room : l.fn.passes ≤ vec_capacity l.all;
  some_left : l.given < l.fn.passes;
  table : l.seat.table_id ≡ l.fn.self.table.shared.table_id;
  unheard : l.seat.me.0.known ≡ 0;
  empty : l.seat.me.1 ≡ [];
  idle : l.seat.me.0.stage ≡ Idle;
  records : l.seat.me.0.records ≡ new_records (g.T.Journaled.origin l.fn.self.table.shared.key.value.value) l.given (l.fn.passes - l.given);
  dealt : (k : ℕ) (d : _) → k < l.given → IsNewPass l.fn.self (g.T.Journaled.origin l.fn.self.table.shared.key.value.value) k (slice_index_or l.all.items k d);
}
