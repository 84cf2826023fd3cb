use Rattle.std.proofs.Common.{◌≡◌, ◌≤◌, true, false, drop, length}
use Rattle.clv_base.specs.declared.names.TxId.{TxId}
use Rattle.clv_base.specs.OneShard.{add_pairs}
use Rattle.clv_base.specs.Orders.{tx_in}
use Rattle.clv_base.specs.Facts.{predecessors_of}
use Rattle.tx_table.specs.Lists.{room_in}
use Rattle.cascade_undo.proofs.deps.Deps.follow.Given as goal

abbrev pub invariant-loop-pred : goal.invariant-loop-pred
invariant-loop-pred l = record {
  left : add_pairs l.fn.tx (drop l.pred-index l.preds) (l.self).pairs ≡ add_pairs l.fn.tx l.preds (l.initial.self).pairs;
  commits : (l.self).commits ≡ (l.initial.self).commits;
  marked : (l.self).marked ≡ (l.initial.self).marked;
  room : (l.self).room ≡ (l.initial.self).room;
  settled_room : (l.self).settled_room ≡ (l.initial.self).settled_room;
  ahead : length (drop l.pred-index l.preds) ≤ room_in l.fn.tx (l.self).ahead;
  behind : (p : TxId) → tx_in p (drop l.pred-index l.preds) ≡ true → tx_in p (predecessors_of (l.self).pairs l.fn.tx) ≡ false → 1 ≤ room_in p (l.self).behind;
  places : length (drop l.pred-index l.preds) ≤ (l.self).places;
}
