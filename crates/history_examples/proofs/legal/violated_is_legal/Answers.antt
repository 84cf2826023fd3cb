use Rattle.history_examples.proofs.Worked.{violated_is_legal}
use Rattle.history_examples.proofs.legal.violated_is_legal.Goals as goal

pub returns : goal.returns
returns c = violated_is_legal
