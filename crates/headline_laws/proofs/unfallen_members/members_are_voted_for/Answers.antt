use Rattle.headline_laws.proofs.MembersAreVotedFor.{members_are_voted_for}
use Rattle.headline_laws.proofs.unfallen_members.members_are_voted_for.Goals as goal

pub returns : goal.returns
returns c = members_are_voted_for
