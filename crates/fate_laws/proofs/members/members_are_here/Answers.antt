use Rattle.fate_laws.proofs.MembersAreHere.{members_are_here}
use Rattle.fate_laws.proofs.members.members_are_here.Goals as goal

pub returns : goal.returns
returns c = members_are_here
