use Rattle.history_examples.proofs.Refusing.{met_is_legal}
use Rattle.history_examples.proofs.aborted.met_is_legal.Goals as goal

pub returns : goal.returns
returns c = met_is_legal
