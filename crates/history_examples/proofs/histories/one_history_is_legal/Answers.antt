use Rattle.history_examples.proofs.Examples.{one_is_legal}
use Rattle.history_examples.proofs.histories.one_history_is_legal.Goals as goal

pub returns : goal.returns
returns c = one_is_legal
