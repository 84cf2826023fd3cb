use Rattle.history_examples.proofs.Worked.{found_is_legal}
use Rattle.history_examples.proofs.legal.found_is_legal.Goals as goal

pub returns : goal.returns
returns c = found_is_legal
