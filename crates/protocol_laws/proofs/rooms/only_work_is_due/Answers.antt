use Rattle.protocol_laws.proofs.OnlyWorkIsDue.{only_work_is_due}
use Rattle.protocol_laws.proofs.rooms.only_work_is_due.Goals as goal

pub returns : goal.returns
returns c = only_work_is_due
