use Rattle.headline_laws.proofs.MembersReplayWhereHere.{members_replay_where_here}
use Rattle.headline_laws.proofs.where_here.members_replay_where_here.Goals as goal

pub returns : goal.returns
returns c = members_replay_where_here
