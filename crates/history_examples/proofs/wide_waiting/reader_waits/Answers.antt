use Rattle.history_examples.proofs.Holding.{reader_waits}
use Rattle.history_examples.proofs.wide_waiting.reader_waits.Goals as goal

pub returns : goal.returns
returns c = reader_waits
