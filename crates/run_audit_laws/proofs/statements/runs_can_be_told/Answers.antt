use Rattle.run_audit_laws.proofs.RunsCanBeTold.{runs_can_be_told}
use Rattle.run_audit_laws.proofs.statements.runs_can_be_told.Goals as goal

pub returns : goal.returns
returns c =
    runs_can_be_told c.books_make_the_report.ensures c.transactions_add_to_books.ensures c.acknowledged_have_rows.ensures c.others_have_none.ensures c.scripts_are_narrow.ensures c.scripts_are_short.ensures
    c.reports_of_runs_are_true.ensures
