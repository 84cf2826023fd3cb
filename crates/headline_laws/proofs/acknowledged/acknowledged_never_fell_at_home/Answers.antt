use Rattle.headline_laws.proofs.AcknowledgedStand.{acknowledged_never_fell_at_home}
use Rattle.headline_laws.proofs.acknowledged.acknowledged_never_fell_at_home.Goals as goal

pub returns : goal.returns
returns c = acknowledged_never_fell_at_home
