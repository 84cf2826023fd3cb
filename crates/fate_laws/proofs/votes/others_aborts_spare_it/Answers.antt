use Rattle.fate_laws.proofs.VotesBind.{others_aborts_spare_it}
use Rattle.fate_laws.proofs.votes.others_aborts_spare_it.Goals as goal

pub returns : goal.returns
returns c = others_aborts_spare_it
