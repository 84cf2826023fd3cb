use Rattle.standby_laws.proofs.Members.{members_stand}
use Rattle.standby_laws.proofs.laws.members_stand.Goals as goal

pub returns : goal.returns
returns c = members_stand
