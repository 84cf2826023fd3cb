use Rattle.session_books.proofs.Making.{made}
use Rattle.session_books.proofs.statements.books_make_the_report.Goals as goal

pub returns : goal.returns
returns c = made
