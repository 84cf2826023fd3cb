use Rattle.ended_laws.proofs.sessions.only_drops_follow_the_end.Goals as goal
use Rattle.ended_laws.proofs.Following.{only_drops_follow_the_end}

pub returns : goal.returns
returns c = only_drops_follow_the_end
