use Rattle.run_audit_laws.proofs.Texts.{texts_are_reports}
use Rattle.run_audit_laws.proofs.statements.texts_are_reports.Goals as goal

pub returns : goal.returns
returns c = texts_are_reports c.reports_are_texts.ensures c.runs_can_be_told.ensures
