use Rattle.std.proofs.Common.{◌≡◌, drop, map}
use Rattle.clv_base.specs.Logs.{stands_from}
use Rattle.history_replay.specs.Transactions.{has_member}
use Rattle.history_replay.proofs.standing.fold_all.Given as goal

abbrev pub invariant-loop-log : goal.invariant-loop-log
invariant-loop-log l =
    stands_from (has_member l.set) (map (λ v. v.items) (drop l.log-index l.logs)) l.pairs
    ≡ stands_from (has_member l.set) (map (λ v. v.items) l.logs) l.fn.pairs
