use Rattle.fate_laws.proofs.VotesBind.{votes_bind}
use Rattle.fate_laws.proofs.votes.votes_bind.Goals as goal

pub returns : goal.returns
returns c = votes_bind
