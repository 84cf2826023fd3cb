use Rattle.standby_laws.proofs.Members.{members_stay}
use Rattle.standby_laws.proofs.laws.members_stay.Goals as goal

pub returns : goal.returns
returns c = members_stay
