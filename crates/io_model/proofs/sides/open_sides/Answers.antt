use Rattle.std.proofs.Common.{◌∙◌}
use Rattle.io_model.proofs.BothSides.{out_same, told_same}
use Rattle.io_model.proofs.sides.open_sides.Goals as goal

pub returns-in_err-side0-clause-others : goal.returns-in_err-side0-clause-others
returns-in_err-side0-clause-others g c = λ other differs.
    let a = c.in_err-side0.ensures.others other differs in
    (a.0, out_same _ _ _ _ (a.1 0).0 (a.1 1).0, told_same _ _ _ _ (a.1 0).1 (a.1 1).1)

pub returns-in-Ok-clause-others : goal.returns-in-Ok-clause-others
returns-in-Ok-clause-others g c = λ other differs.
    let a = c.in_ok-side0.ensures.others other differs in
    let b = c.in-Ok.ensures.others other differs in
    (b.0 ∙ a.0, out_same _ _ _ _ ((b.1 0).0 ∙ (a.1 0).0) ((b.1 1).0 ∙ (a.1 1).0), told_same _ _ _ _ ((b.1 0).1 ∙ (a.1 0).1) ((b.1 1).1 ∙ (a.1 1).1))

pub returns-in-Err-clause-others : goal.returns-in-Err-clause-others
returns-in-Err-clause-others g c = λ other differs.
    let a = c.in_ok-side0.ensures.others other differs in
    let b = c.in-Err.ensures.others other differs in
    let d = c.give_side.ensures.others other differs in (
      d.0 ∙ (b.0 ∙ a.0),
      out_same _ _ _ _ ((d.1 0).0 ∙ ((b.1 0).0 ∙ (a.1 0).0)) ((d.1 1).0 ∙ ((b.1 1).0 ∙ (a.1 1).0)),
      told_same _ _ _ _ ((d.1 0).1 ∙ ((b.1 0).1 ∙ (a.1 0).1)) ((d.1 1).1 ∙ ((b.1 1).1 ∙ (a.1 1).1)),
    )
