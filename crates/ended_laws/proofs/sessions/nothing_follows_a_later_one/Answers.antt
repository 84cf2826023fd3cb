use Rattle.ended_laws.proofs.sessions.nothing_follows_a_later_one.Goals as goal
use Rattle.ended_laws.proofs.Following.{nothing_follows_a_later_one}

pub returns : goal.returns
returns c = nothing_follows_a_later_one
