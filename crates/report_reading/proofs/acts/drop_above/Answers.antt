use Rattle.std.proofs.Common.{vec_len, length, sym, ap, ◌∙◌, subst, arith}
use Rattle.report_reading.specs.Standing.{Rise, up_to}
use Rattle.report_reading.proofs.Numbering.{none_dropped, popped}
use Rattle.report_reading.proofs.acts.drop_above.Goals as goal

pub returns-then-last-upto : goal.returns-then-last-upto
returns-then-last-upto c =
    sym c.deref.ensures.value
    ∙ none_dropped c.args.upto c.deref.result.now c.in-Some.last.now (subst (Rise 0) (sym c.deref.ensures.value) c.loop-last.invariant.rises) (c.in-Some.ensures.item.3).0 c.in-Some.ensures.item.1 c.if-last-upto.true
    ∙ ap (up_to c.args.upto) c.deref.ensures.value ∙ c.loop-last.invariant.same

pub loop-last-preserved : goal.loop-last-preserved
loop-last-preserved c =
    let ok = c.loop-last.standing.ok in
    let size = ap length c.deref.ensures.value in
    let some = (c.in-Some.ensures.item.3).0 in
    let above = c.if-last-upto.false in
    let left =
    popped c.args.upto c.loop-last.standing.items c.deref.result.now c.pop.new.self.items (vec_len c.loop-last.standing) c.in-Some.last.now c.pop.result c.loop-last.invariant.rises c.deref.ensures.value (omega arith) c.in-Some.ensures.item.1
    (omega arith) c.pop.ensures.items (c.pop.ensures.value c.in-Some.last.now (omega arith)) in
    record { rises = left.0; same = left.1 ∙ c.loop-last.invariant.same }
