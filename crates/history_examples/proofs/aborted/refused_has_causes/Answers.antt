use Rattle.history_examples.proofs.Refusing.{refused_has_causes}
use Rattle.history_examples.proofs.aborted.refused_has_causes.Goals as goal

pub returns : goal.returns
returns c = refused_has_causes
