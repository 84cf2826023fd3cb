use Rattle.report_reading.proofs.Whole.{last_above}
use Rattle.report_reading.proofs.reading.rises_to.Goals as goal

pub returns-in-Some : goal.returns-in-Some
returns-in-Some c = last_above c.args.pairs.now c.args.key c.in-Some.last.now (c.in-Some.ensures.item.3).0 c.requires c.in-Some.ensures.item.1
