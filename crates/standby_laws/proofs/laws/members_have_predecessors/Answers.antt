use Rattle.standby_laws.proofs.Before.{members_have_predecessors}
use Rattle.standby_laws.proofs.laws.members_have_predecessors.Goals as goal

pub returns : goal.returns
returns c = members_have_predecessors
