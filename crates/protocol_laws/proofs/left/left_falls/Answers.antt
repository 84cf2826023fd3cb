use Rattle.protocol_laws.proofs.LeftFalls.{left_falls}
use Rattle.protocol_laws.proofs.left.left_falls.Goals as goal

pub returns : goal.returns
returns c = left_falls
