use Rattle.history_examples.proofs.Restarting.{down_is_legal}
use Rattle.history_examples.proofs.restarted.down_is_legal.Goals as goal

pub returns : goal.returns
returns c = down_is_legal
