use Rattle.history_examples.proofs.Lagging.{lagging_is_no_moment}
use Rattle.history_examples.proofs.cut.lagging_is_no_moment.Goals as goal

pub returns : goal.returns
returns c = lagging_is_no_moment
