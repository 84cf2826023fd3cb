use Rattle.history_examples.proofs.Holding.{waiting_is_legal}
use Rattle.history_examples.proofs.wide_waiting.waiting_is_legal.Goals as goal

pub returns : goal.returns
returns c = waiting_is_legal
