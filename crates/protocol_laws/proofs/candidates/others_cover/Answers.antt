use Rattle.protocol_laws.proofs.Due.LeastIsNext.{others_cover}
use Rattle.protocol_laws.proofs.candidates.others_cover.Goals as goal

pub returns : goal.returns
returns c = others_cover
