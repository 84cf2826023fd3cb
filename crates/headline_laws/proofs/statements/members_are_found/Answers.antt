use Rattle.headline_laws.proofs.MembersReplay.{members_are_found}
use Rattle.headline_laws.proofs.statements.members_are_found.Goals as goal

pub returns : goal.returns
returns c = members_are_found
