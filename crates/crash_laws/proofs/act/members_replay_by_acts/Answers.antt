use Rattle.crash_laws.proofs.ActsReplay.{members_replay_by_acts}
use Rattle.crash_laws.proofs.act.members_replay_by_acts.Goals as goal

pub returns : goal.returns
returns c = members_replay_by_acts
