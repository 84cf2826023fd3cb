use Rattle.crash_laws.proofs.ActsReplay.{members_have_their_acts}
use Rattle.crash_laws.proofs.act.members_have_their_acts.Goals as goal

pub returns : goal.returns
returns c = members_have_their_acts
