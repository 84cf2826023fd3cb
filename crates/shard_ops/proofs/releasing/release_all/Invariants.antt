-- The records are those from the start without the ghosts that bear no lock any more.
use Rattle.std.proofs.Common.{◌≡◌, ◌≤◌, drop}
use Rattle.clv_base.specs.Locks.{release}
use Rattle.clv_base.specs.Needs.{without_ghosts}
use Rattle.shard_ops.proofs.releasing.release_all.Given as goal

abbrev pub invariant-loop-tx : goal.invariant-loop-tx
invariant-loop-tx g l = record {
  left : release (drop l.tx-index l.txs) (g.L.Locks.rows l.locks) ≡ release l.txs (g.L.Locks.rows l.initial.locks);
  records : g.S.Store.records l.store ≡ without_ghosts (g.L.Locks.rows l.locks) (g.S.Store.records l.initial.store);
  room : g.S.Store.room l.initial.store ≤ g.S.Store.room l.store;
}
