use Rattle.history_examples.proofs.Steps.{doubt_comes_back}
use Rattle.history_examples.proofs.doubt.doubt_comes_back.Goals as goal

pub returns : goal.returns
returns c = doubt_comes_back
