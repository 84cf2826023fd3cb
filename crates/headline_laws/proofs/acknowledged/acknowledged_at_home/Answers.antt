use Rattle.headline_laws.proofs.AcknowledgedStand.{acknowledged_at_home}
use Rattle.headline_laws.proofs.acknowledged.acknowledged_at_home.Goals as goal

pub returns : goal.returns
returns c = acknowledged_at_home
