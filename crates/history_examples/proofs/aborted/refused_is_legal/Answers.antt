use Rattle.history_examples.proofs.Refusing.{refused_is_legal}
use Rattle.history_examples.proofs.aborted.refused_is_legal.Goals as goal

pub returns : goal.returns
returns c = refused_is_legal
