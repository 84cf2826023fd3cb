use Rattle.history_examples.proofs.Undoing.{undone_has_cause}
use Rattle.history_examples.proofs.undone.undone_has_cause.Goals as goal

pub returns : goal.returns
returns c = undone_has_cause
