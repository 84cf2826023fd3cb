use Rattle.run_audit_laws.proofs.Texts.{reports_are_texts}
use Rattle.run_audit_laws.proofs.statements.reports_are_texts.Goals as goal

pub returns : goal.returns
returns c = reports_are_texts
