use Rattle.ended_laws.proofs.sessions.no_work_follows_a_request.Goals as goal
use Rattle.ended_laws.proofs.Following.{no_work_follows_a_request}

pub returns : goal.returns
returns c = no_work_follows_a_request
