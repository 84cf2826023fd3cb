use Rattle.history_examples.proofs.Lagging.{lagging_is_a_cut}
use Rattle.history_examples.proofs.cut.lagging_is_a_cut.Goals as goal

pub returns : goal.returns
returns c = lagging_is_a_cut
