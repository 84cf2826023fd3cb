use Rattle.std.proofs.Common.{◌≡◌, drop}
use Rattle.clv_base.specs.Logs.{standing}
use Rattle.clv_base.specs.Restarts.{with_ghosts}
use Rattle.shard_recovery.proofs.winners.haunt_at.Given as goal

abbrev pub invariant-loop-place : goal.invariant-loop-place
invariant-loop-place g l =
    with_ghosts l.doubtful (drop l.place (standing l.log)) (g.S.Store.records l.store) ≡ with_ghosts l.doubtful (standing l.log) (g.S.Store.records l.initial.store)
