use Rattle.audit_laws.proofs.ReportsAreTrue.{reports_are_true}
use Rattle.audit_laws.proofs.statements.reports_are_true.Goals as goal

pub returns : goal.returns
returns c = reports_are_true c.promise.ensures
