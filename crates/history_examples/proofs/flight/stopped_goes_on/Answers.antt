use Rattle.history_examples.proofs.Flying.{stopped_goes_on}
use Rattle.history_examples.proofs.flight.stopped_goes_on.Goals as goal

pub returns : goal.returns
returns c = stopped_goes_on
