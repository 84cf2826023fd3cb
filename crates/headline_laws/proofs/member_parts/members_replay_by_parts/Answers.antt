use Rattle.headline_laws.proofs.MembersReplayByParts.{members_replay_by_parts}
use Rattle.headline_laws.proofs.member_parts.members_replay_by_parts.Goals as goal

pub returns : goal.returns
returns c = members_replay_by_parts
