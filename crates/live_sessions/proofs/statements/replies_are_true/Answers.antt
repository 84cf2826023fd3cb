use Rattle.live_sessions.proofs.RepliesAreTrue.{replies_are_true}
use Rattle.live_sessions.proofs.statements.replies_are_true.Goals as goal

pub returns : goal.returns
returns c = replies_are_true
