use Rattle.headline_laws.proofs.AcknowledgedStand.{acknowledged_stand}
use Rattle.headline_laws.proofs.acknowledged.acknowledged_stand.Goals as goal

pub returns : goal.returns
returns c = acknowledged_stand
