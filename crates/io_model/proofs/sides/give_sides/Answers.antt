use Rattle.std.proofs.Common.{◌∙◌}
use Rattle.io_model.proofs.BothSides.{out_same, told_same}
use Rattle.io_model.proofs.sides.give_sides.Goals as goal

pub returns-clause-others : goal.returns-clause-others
returns-clause-others g c = λ other differs.
    let a = c.give_side.ensures.others other differs in
    let b = c.give_side-2.ensures.others other differs in
    (b.0 ∙ a.0, out_same _ _ _ _ ((b.1 0).0 ∙ (a.1 0).0) ((b.1 1).0 ∙ (a.1 1).0), told_same _ _ _ _ ((b.1 0).1 ∙ (a.1 0).1) ((b.1 1).1 ∙ (a.1 1).1))
