use Rattle.history_examples.proofs.Flying.{lost_is_legal}
use Rattle.history_examples.proofs.flight.lost_is_legal.Goals as goal

pub returns : goal.returns
returns c = lost_is_legal
