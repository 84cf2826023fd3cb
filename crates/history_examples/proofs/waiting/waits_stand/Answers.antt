use Rattle.history_examples.proofs.Examples.{they_wait}
use Rattle.history_examples.proofs.waiting.waits_stand.Goals as goal

pub returns : goal.returns
returns c = they_wait
