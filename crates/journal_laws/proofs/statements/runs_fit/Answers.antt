use Rattle.journal_laws.proofs.RunsGoOn.{runs_fit}
use Rattle.journal_laws.proofs.statements.runs_fit.Goals as goal

pub returns : goal.returns
returns c = runs_fit
