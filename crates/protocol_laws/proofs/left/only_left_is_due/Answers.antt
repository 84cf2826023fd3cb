use Rattle.protocol_laws.proofs.LeftFalls.{only_left_is_due}
use Rattle.protocol_laws.proofs.left.only_left_is_due.Goals as goal

pub returns : goal.returns
returns c = only_left_is_due
