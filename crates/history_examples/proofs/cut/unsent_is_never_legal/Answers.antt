use Rattle.history_examples.proofs.Lagging.{unsent_is_never_legal}
use Rattle.history_examples.proofs.cut.unsent_is_never_legal.Goals as goal

pub returns : goal.returns
returns c = unsent_is_never_legal
