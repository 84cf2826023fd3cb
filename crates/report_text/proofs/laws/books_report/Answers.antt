use Rattle.report_text.proofs.Reporting.{one_text}
use Rattle.report_text.proofs.laws.books_report.Goals as goal

pub returns : goal.returns
returns c = one_text c.books_make_the_report.ensures
