use Rattle.history_examples.proofs.Flying.{found_is_legal}
use Rattle.history_examples.proofs.flight.found_is_legal.Goals as goal

pub returns : goal.returns
returns c = found_is_legal
