use Rattle.history_examples.proofs.Steps.{doubt_is_committed}
use Rattle.history_examples.proofs.doubt.doubt_is_committed.Goals as goal

pub returns : goal.returns
returns c = doubt_is_committed
