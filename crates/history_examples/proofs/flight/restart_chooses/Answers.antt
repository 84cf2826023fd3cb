use Rattle.history_examples.proofs.Flying.{restart_chooses}
use Rattle.history_examples.proofs.flight.restart_chooses.Goals as goal

pub returns : goal.returns
returns c = restart_chooses
