use Rattle.std.proofs.Common.{◌≡◌, List, map, drop, ◌++◌}
use Rattle.clv_base.specs.Logs.{StandingUpdate, standing_from}
use Rattle.log_analysis.specs.Standing.{owed_in, lsns_left}
use Rattle.log_analysis.proofs.standing.standing_lsns.Given as goal

abbrev pub invariant-loop-lsn : goal.invariant-loop-lsn
invariant-loop-lsn l = (ws : List StandingUpdate) → l.lsns.items ++ lsns_left (owed_in l.passed) ws ≡ map (λ w. w.lsn) (standing_from l.lsn (drop l.lsn l.records) ws)
