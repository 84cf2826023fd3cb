use Rattle.script_runs.proofs.TryBooks.{others_have_none}
use Rattle.script_runs.proofs.book_laws.others_have_none.Goals as goal

pub returns : goal.returns
returns c = others_have_none
