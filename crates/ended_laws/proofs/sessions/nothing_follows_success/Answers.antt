use Rattle.ended_laws.proofs.sessions.nothing_follows_success.Goals as goal
use Rattle.ended_laws.proofs.Following.{nothing_follows_success}

pub returns : goal.returns
returns c = nothing_follows_success
