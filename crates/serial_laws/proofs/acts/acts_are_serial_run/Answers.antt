use Rattle.serial_laws.proofs.ActsAreSerialRun.{acts_are_serial_run}
use Rattle.serial_laws.proofs.acts.acts_are_serial_run.Goals as goal

pub returns : goal.returns
returns c = acts_are_serial_run
