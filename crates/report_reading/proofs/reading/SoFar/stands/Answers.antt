use Rattle.std.proofs.Common.{subst}
use Rattle.report_reading.specs.Reading.{CanStand}
use Rattle.report_reading.proofs.reading.SoFar.stands.Goals as goal

pub returns : goal.returns
returns c = subst CanStand c.self.view_is c.self.invariant
