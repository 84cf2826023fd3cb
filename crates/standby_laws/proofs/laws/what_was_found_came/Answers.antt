use Rattle.standby_laws.proofs.Settled.{what_was_found_came}
use Rattle.standby_laws.proofs.laws.what_was_found_came.Goals as goal

pub returns : goal.returns
returns c = what_was_found_came
