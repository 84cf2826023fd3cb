use Rattle.history_examples.proofs.Steps.{doubt_is_found}
use Rattle.history_examples.proofs.doubt.doubt_is_found.Goals as goal

pub returns : goal.returns
returns c = doubt_is_found
