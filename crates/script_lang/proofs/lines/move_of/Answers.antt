use Rattle.std.proofs.Common.{◌∙◌, sym}
use Rattle.script_lang.proofs.Words.{three_once}
use Rattle.script_lang.proofs.lines.move_of.Goals as goal

pub returns-then-from-to : goal.returns-then-from-to
returns-then-from-to c = λ from to amount is differ.
    let same = three_once _ _ _ _ from to amount c.in-Some.ensures is in differ (sym same.0 ∙ c.if-from-to.true ∙ same.1)

pub returns-in-None : goal.returns-in-None
returns-in-None c = λ from to amount is differ. c.in-None.ensures from to amount is
