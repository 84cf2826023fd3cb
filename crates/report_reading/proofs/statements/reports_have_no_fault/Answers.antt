use Rattle.report_reading.proofs.Reports.{no_fault}
use Rattle.report_reading.proofs.statements.reports_have_no_fault.Goals as goal

pub returns : goal.returns
returns c = no_fault
