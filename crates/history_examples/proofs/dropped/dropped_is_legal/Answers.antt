use Rattle.history_examples.proofs.Dropping.{dropped_is_legal}
use Rattle.history_examples.proofs.dropped.dropped_is_legal.Goals as goal

pub returns : goal.returns
returns c = dropped_is_legal
