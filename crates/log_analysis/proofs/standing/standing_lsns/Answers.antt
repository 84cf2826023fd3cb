use Rattle.std.proofs.Common.{ap, arith}
use Rattle.std.specs.Option.{unwrap_or}
use Rattle.log_analysis.specs.Standing.{owed_in}
use Rattle.log_analysis.proofs.Passing.{begins_back, steps_back}
use Rattle.log_analysis.proofs.standing.standing_lsns.Goals as goal

pub loop-lsn-init : goal.loop-lsn-init
loop-lsn-init c = begins_back c.args.records.now c.new-lsns.result.items (owed_in (record { rows = c.new.result })) c.new-lsns.ensures.items (λ t. ap (λ row. unwrap_or row 0) (c.new.ensures t))

pub loop-lsn-preserved : goal.loop-lsn-preserved
loop-lsn-preserved c =
    steps_back c.args.records.now c.loop-lsn.lsn c.index-records-lsn.result (owed_in c.loop-lsn.passed) (owed_in c.pass.new.self) c.loop-lsn.lsns.items c.pass.new.lsns.items
    (omega arith) (omega arith) c.index-records-lsn.is c.loop-lsn.invariant c.in_ok-pass.ensures
