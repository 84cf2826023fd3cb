use Rattle.history_examples.proofs.Undoing.{undone_is_legal}
use Rattle.history_examples.proofs.undone.undone_is_legal.Goals as goal

pub returns : goal.returns
returns c = undone_is_legal
