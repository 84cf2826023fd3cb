use Rattle.history_examples.proofs.Flying.{stopped_is_legal}
use Rattle.history_examples.proofs.flight.stopped_is_legal.Goals as goal

pub returns : goal.returns
returns c = stopped_is_legal
