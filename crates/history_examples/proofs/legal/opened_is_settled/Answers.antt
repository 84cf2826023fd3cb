use Rattle.history_examples.proofs.Worked.{opened_is_settled}
use Rattle.history_examples.proofs.legal.opened_is_settled.Goals as goal

pub returns : goal.returns
returns c = opened_is_settled
