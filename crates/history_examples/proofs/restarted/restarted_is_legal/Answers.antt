use Rattle.history_examples.proofs.Restarting.{restarted_is_legal}
use Rattle.history_examples.proofs.restarted.restarted_is_legal.Goals as goal

pub returns : goal.returns
returns c = restarted_is_legal
