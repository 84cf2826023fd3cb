use Rattle.protocol_laws.proofs.OnlyWorkIsDue.{messages_by_work}
use Rattle.protocol_laws.proofs.rooms.messages_by_work.Goals as goal

pub returns : goal.returns
returns c = messages_by_work
