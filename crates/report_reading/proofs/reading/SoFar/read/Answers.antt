use Rattle.report_reading.proofs.Places.{ok_comes, comes_none}
use Rattle.report_reading.proofs.reading.SoFar.read.Goals as goal

pub returns-in-Some : goal.returns-in-Some
returns-in-Some c =
    let tells = (rw c.in-Some.is at c.in_ok-told.ensures) in ok_comes c.args.self.now c.take.new.self c.args.line.now c.in-Some.told c.take.result c.stands.ensures tells.0 tells.1 c.take.ensures

pub returns-in-None : goal.returns-in-None
returns-in-None c = comes_none c.args.self.now c.args.line.now c.stands.ensures (rw c.in-None.is at c.in_ok-told.ensures)
