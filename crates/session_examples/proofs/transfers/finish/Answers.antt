use Rattle.std.proofs.Common.{refl}
use Rattle.session_examples.proofs.Following.{same_later}
use Rattle.session_examples.proofs.transfers.finish.Goals as goal

pub returns-in-Ok-clause-later : goal.returns-in-Ok-clause-later
returns-in-Ok-clause-later g c = let w = c.args.session.now.walker in same_later w w refl

pub returns-in-Err-Aborted-clause-later : goal.returns-in-Err-Aborted-clause-later
returns-in-Err-Aborted-clause-later g c = let w = c.args.session.now.walker in same_later w w refl
