use Rattle.report_reading.proofs.Whole.{cut_first, cut_whole}
use Rattle.report_reading.proofs.reading.cut_line.Goals as goal

pub returns-in-Some-clause-cut : goal.returns-in-Some-clause-cut
returns-in-Some-clause-cut c = cut_first _ _ _ c.in-Some.ensures.0 c.in-Some.ensures.1

pub returns-in-None-clause-cut : goal.returns-in-None-clause-cut
returns-in-None-clause-cut c = cut_whole _ c.requires c.in-None.ensures
