use Rattle.protocol_laws.proofs.LeftFalls.{messages_by_left}
use Rattle.protocol_laws.proofs.left.messages_by_left.Goals as goal

pub returns : goal.returns
returns c = messages_by_left
