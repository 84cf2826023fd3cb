use Rattle.run_audit_laws.proofs.Runs.{reports_of_runs_are_true}
use Rattle.run_audit_laws.proofs.statements.reports_of_runs_are_true.Goals as goal

pub returns : goal.returns
returns c = reports_of_runs_are_true c.reports_are_true.ensures c.scans_stand_whole.ensures c.nothing_is_unsettled.ensures
