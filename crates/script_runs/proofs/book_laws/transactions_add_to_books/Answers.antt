use Rattle.script_runs.proofs.TransactionBooks.{transactions_add_to_books}
use Rattle.script_runs.proofs.book_laws.transactions_add_to_books.Goals as goal

pub returns : goal.returns
returns c = transactions_add_to_books
