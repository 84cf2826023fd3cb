use Rattle.history_examples.proofs.Lagging.{lagging_walkers_are_no_front}
use Rattle.history_examples.proofs.cut.lagging_walkers_are_no_front.Goals as goal

pub returns : goal.returns
returns c = lagging_walkers_are_no_front
