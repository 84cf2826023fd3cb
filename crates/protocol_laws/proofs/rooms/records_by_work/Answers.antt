use Rattle.protocol_laws.proofs.OnlyWorkIsDue.{records_by_work}
use Rattle.protocol_laws.proofs.rooms.records_by_work.Goals as goal

pub returns : goal.returns
returns c = records_by_work
