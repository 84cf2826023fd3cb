use Rattle.journal_laws.proofs.RunsGoOn.{runs_go_on}
use Rattle.journal_laws.proofs.statements.runs_go_on.Goals as goal

pub returns : goal.returns
returns c = runs_go_on
