use Rattle.std.proofs.Common.{arith}
use Rattle.script_lang.proofs.Words.{two_once}
use Rattle.script_lang.proofs.lines.scan_of.Goals as goal

pub returns-else-low-high : goal.returns-else-low-high
returns-else-low-high c = λ lo hi is rise. let same = two_once _ _ _ lo hi c.in-Some.ensures is in omega arith

pub returns-in-None : goal.returns-in-None
returns-in-None c = λ lo hi is rise. c.in-None.ensures lo hi is
