use Rattle.history_examples.proofs.Following.{reading_is_legal}
use Rattle.history_examples.proofs.reading.reading_is_legal.Goals as goal

pub returns : goal.returns
returns c = reading_is_legal
