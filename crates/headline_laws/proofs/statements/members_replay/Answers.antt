use Rattle.headline_laws.proofs.MembersReplay.{members_replay}
use Rattle.headline_laws.proofs.statements.members_replay.Goals as goal

pub returns : goal.returns
returns c = members_replay
