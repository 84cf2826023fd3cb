use Rattle.std.proofs.Common.{◌≡◌, drop}
use Rattle.clv_base.specs.Logs.{place_from}
use Rattle.clv_base.specs.Restarts.{bars_restart}
use Rattle.cluster_closing.proofs.judging.first_barred.Given as goal

abbrev pub invariant-loop-lsn : goal.invariant-loop-lsn
invariant-loop-lsn l = place_from l.lsn (bars_restart l.run) (drop l.lsn l.log) ≡ place_from 0 (bars_restart l.run) l.log
