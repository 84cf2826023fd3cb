-- The records are those from the start without the ghosts that bear no lock any more.
use Rattle.std.proofs.Common.{◌≡◌, ◌≤◌, [], ◌∷◌, length}
use Rattle.clv_base.specs.Locks.{release}
use Rattle.clv_base.specs.Needs.{without_ghosts}
use Rattle.shard_ops.proofs.releasing.release_one.Given as goal

abbrev pub invariant-loop-anchor : goal.invariant-loop-anchor
invariant-loop-anchor g l = record {
  left : release (l.tx ∷ []) (g.L.Locks.rows l.locks) ≡ release (l.tx ∷ []) (g.L.Locks.rows l.initial.locks);
  records : g.S.Store.records l.store ≡ without_ghosts (g.L.Locks.rows l.locks) (g.S.Store.records l.initial.store);
  room : g.S.Store.room l.initial.store ≤ g.S.Store.room l.store;
}

-- each turn gives up a lock
abbrev pub decreases-loop-anchor : goal.decreases-loop-anchor
decreases-loop-anchor g l = length (g.L.Locks.rows l.locks)
