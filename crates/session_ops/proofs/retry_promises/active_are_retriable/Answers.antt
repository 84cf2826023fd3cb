use Rattle.session_ops.proofs.RetryLeaving.{active_are_retriable}
use Rattle.session_ops.proofs.retry_promises.active_are_retriable.Goals as goal

pub returns : goal.returns
returns g c = active_are_retriable _ _ _
