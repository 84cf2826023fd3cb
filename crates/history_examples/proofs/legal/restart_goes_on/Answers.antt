use Rattle.history_examples.proofs.Worked.{restart_goes_on}
use Rattle.history_examples.proofs.legal.restart_goes_on.Goals as goal

pub returns : goal.returns
returns c = restart_goes_on
