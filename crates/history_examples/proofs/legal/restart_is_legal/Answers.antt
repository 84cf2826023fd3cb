use Rattle.history_examples.proofs.Worked.{restart_is_legal}
use Rattle.history_examples.proofs.legal.restart_is_legal.Goals as goal

pub returns : goal.returns
returns c = restart_is_legal
