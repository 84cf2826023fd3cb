use Rattle.history_examples.proofs.Again.{reopened_is_legal}
use Rattle.history_examples.proofs.reopened.reopened_is_legal.Goals as goal

pub returns : goal.returns
returns c = reopened_is_legal
