use Rattle.clv_base.proofs.Grouping.{is_serial_run}
use Rattle.protocol_laws.proofs.replay.operations_are_a_serial_run.Goals as goal

pub returns : goal.returns
returns c = is_serial_run
