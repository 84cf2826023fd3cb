use Rattle.std.proofs.Common.{◌∙◌, arith}
use Rattle.report_reading.proofs.Numbering.{among_last, among_none}
use Rattle.report_reading.proofs.acts.went_back.Goals as goal

pub returns-in-Some-clause-may : goal.returns-in-Some-clause-may
returns-in-Some-clause-may c =
    among_last c.args.upto c.args.standing.now.items c.deref.result.now c.in-Some.last.now c.requires (c.deref.ensures.value ∙ c.drop_above.ensures) (c.in-Some.ensures.item.3).0 c.in-Some.ensures.item.1

pub returns-in-None-clause-may : goal.returns-in-None-clause-may
returns-in-None-clause-may c =
    let none = c.in-None.ensures.item.3 in among_none c.args.upto c.args.standing.now.items c.deref.result.now (c.deref.ensures.value ∙ c.drop_above.ensures) (omega arith)
