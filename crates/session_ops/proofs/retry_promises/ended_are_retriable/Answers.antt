use Rattle.session_ops.proofs.RetryLeaving.{ended_are_retriable}
use Rattle.session_ops.proofs.retry_promises.ended_are_retriable.Goals as goal

pub returns : goal.returns
returns g c = ended_are_retriable _ _ _
