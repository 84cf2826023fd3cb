use Rattle.headline_laws.proofs.AcknowledgedStand.{acknowledged_are_members}
use Rattle.headline_laws.proofs.acknowledged.acknowledged_are_members.Goals as goal

pub returns : goal.returns
returns c = acknowledged_are_members
