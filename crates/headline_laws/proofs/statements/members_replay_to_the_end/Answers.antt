use Rattle.headline_laws.proofs.MembersReplayToTheEnd.{members_replay_to_the_end}
use Rattle.headline_laws.proofs.statements.members_replay_to_the_end.Goals as goal

pub returns : goal.returns
returns c = members_replay_to_the_end
