use Rattle.report_text.proofs.Reporting.{one_taken}
use Rattle.report_text.proofs.laws.books_are_reported.Goals as goal

pub returns : goal.returns
returns c = one_taken c.books_make_the_report.ensures
