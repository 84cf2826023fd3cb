use Rattle.law_base.proofs.Undoing.{standing_undone}
use Rattle.law_base.proofs.laws.undo_leaves_the_others.Goals as goal

pub returns : goal.returns
returns c = standing_undone
