use Rattle.session_ops.proofs.Unbearing.{drops_unbear}
use Rattle.session_ops.proofs.drop_promises.drops_unbear.Goals as goal

pub returns : goal.returns
returns g c = drops_unbear _ _ _
