use Rattle.ended_laws.proofs.requests.over_stays_over.Goals as goal
use Rattle.ended_laws.proofs.Staying.{over_stays_over}

pub returns : goal.returns
returns c = over_stays_over
