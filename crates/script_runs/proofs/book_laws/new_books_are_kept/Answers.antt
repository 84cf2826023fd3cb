use Rattle.script_runs.proofs.KeptTries.{new_books_are_kept}
use Rattle.script_runs.proofs.book_laws.new_books_are_kept.Goals as goal

pub returns : goal.returns
returns c = new_books_are_kept
