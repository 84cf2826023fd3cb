use Rattle.history_examples.proofs.Refusing.{met_begins_settled}
use Rattle.history_examples.proofs.aborted.met_begins_settled.Goals as goal

pub returns : goal.returns
returns c = met_begins_settled
