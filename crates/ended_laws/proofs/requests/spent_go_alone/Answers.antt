use Rattle.ended_laws.proofs.Spent.{spent_go_alone}
use Rattle.ended_laws.proofs.requests.spent_go_alone.Goals as goal

pub returns : goal.returns
returns c = spent_go_alone
