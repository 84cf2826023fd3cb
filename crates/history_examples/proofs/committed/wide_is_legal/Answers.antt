use Rattle.history_examples.proofs.Wide.{wide_is_legal}
use Rattle.history_examples.proofs.committed.wide_is_legal.Goals as goal

pub returns : goal.returns
returns c = wide_is_legal
