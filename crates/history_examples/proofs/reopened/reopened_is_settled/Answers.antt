use Rattle.history_examples.proofs.Again.{reopened_is_settled}
use Rattle.history_examples.proofs.reopened.reopened_is_settled.Goals as goal

pub returns : goal.returns
returns c = reopened_is_settled
