use Rattle.session_ops.proofs.RetryLeaving.{aborts_are_retriable}
use Rattle.session_ops.proofs.retry_promises.aborts_are_retriable.Goals as goal

pub returns : goal.returns
returns g c = aborts_are_retriable _ _ _
