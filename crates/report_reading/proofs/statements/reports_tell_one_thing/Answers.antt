use Rattle.report_reading.proofs.Reports.{one_thing}
use Rattle.report_reading.proofs.statements.reports_tell_one_thing.Goals as goal

pub returns : goal.returns
returns c = one_thing
