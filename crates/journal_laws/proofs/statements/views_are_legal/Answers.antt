use Rattle.journal_laws.proofs.ViewsAreLegal.{views_are_legal}
use Rattle.journal_laws.proofs.statements.views_are_legal.Goals as goal

pub returns : goal.returns
returns c = views_are_legal
