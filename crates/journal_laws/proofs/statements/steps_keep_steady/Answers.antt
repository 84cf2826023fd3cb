use Rattle.journal_laws.proofs.SteadyIsLegal.{steps_keep_steady}
use Rattle.journal_laws.proofs.statements.steps_keep_steady.Goals as goal

pub returns : goal.returns
returns c = steps_keep_steady
