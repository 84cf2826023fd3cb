use Rattle.ended_laws.proofs.Spent.{spent_stays_spent}
use Rattle.ended_laws.proofs.requests.spent_stays_spent.Goals as goal

pub returns : goal.returns
returns c = spent_stays_spent
