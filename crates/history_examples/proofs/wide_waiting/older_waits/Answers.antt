use Rattle.history_examples.proofs.Holding.{older_waits}
use Rattle.history_examples.proofs.wide_waiting.older_waits.Goals as goal

pub returns : goal.returns
returns c = older_waits
