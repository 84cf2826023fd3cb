use Rattle.standby_laws.proofs.ShownIsSerial.{shown_is_serial}
use Rattle.standby_laws.proofs.laws.shown_is_serial.Goals as goal

pub returns : goal.returns
returns c = shown_is_serial
