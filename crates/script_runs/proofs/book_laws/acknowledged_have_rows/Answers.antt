use Rattle.script_runs.proofs.TryBooks.{acknowledged_have_rows}
use Rattle.script_runs.proofs.book_laws.acknowledged_have_rows.Goals as goal

pub returns : goal.returns
returns c = acknowledged_have_rows
