use Rattle.journal_laws.proofs.SteadyIsLegal.{steady_is_legal}
use Rattle.journal_laws.proofs.statements.steady_is_legal.Goals as goal

pub returns : goal.returns
returns c = steady_is_legal
