use Rattle.history_examples.proofs.Flying.{lost_has_cause}
use Rattle.history_examples.proofs.flight.lost_has_cause.Goals as goal

pub returns : goal.returns
returns c = lost_has_cause
