use Rattle.checkpoint_laws.proofs.GoingOn.{stay_alike}
use Rattle.checkpoint_laws.proofs.laws.logs_in_order_stay_alike.Goals as goal

pub returns : goal.returns
returns c = stay_alike
