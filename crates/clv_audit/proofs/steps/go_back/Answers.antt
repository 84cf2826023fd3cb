use Rattle.std.proofs.Common.{List, sym, ap, ◌∙◌, subst, arith}
use Rattle.report_reading.specs.Standing.{Rise}
use Rattle.clv_audit.specs.declared.steps.Step.{Step}
use Rattle.clv_audit.specs.Keeping.{undone, steps_above, steps_up_to, numbers_of}
use Rattle.clv_audit.proofs.Undoing.{last_greatest, none_above, all_up_to, taken_back}
use Rattle.clv_audit.proofs.steps.go_back.Goals as goal

pub returns-then-last-upto-clause-pairs : goal.returns-then-last-upto-clause-pairs
returns-then-last-upto-clause-pairs c =
    let low =
    last_greatest 0 c.args.upto c.deref.result.now c.in-Some.last.now (subst (λ (l : List Step). Rise 0 (numbers_of l)) (sym c.deref.ensures.value) c.loop-last.invariant.rises) (c.in-Some.ensures.item.3).0 c.in-Some.ensures.item.1 c.if-last-upto.true in
    sym (ap (λ (l : List Step). undone l c.loop-last.pairs) (ap (steps_above c.args.upto) (sym c.deref.ensures.value) ∙ none_above c.args.upto c.deref.result.now low)) ∙ c.loop-last.invariant.pairs

pub returns-then-last-upto-clause-steps : goal.returns-then-last-upto-clause-steps
returns-then-last-upto-clause-steps c =
    let low =
    last_greatest 0 c.args.upto c.deref.result.now c.in-Some.last.now (subst (λ (l : List Step). Rise 0 (numbers_of l)) (sym c.deref.ensures.value) c.loop-last.invariant.rises) (c.in-Some.ensures.item.3).0 c.in-Some.ensures.item.1 c.if-last-upto.true in
    sym c.deref.ensures.value ∙ sym (all_up_to c.args.upto c.deref.result.now low) ∙ ap (steps_up_to c.args.upto) c.deref.ensures.value ∙ c.loop-last.invariant.steps

pub loop-last-preserved : goal.loop-last-preserved
loop-last-preserved c =
    let back = c.in_ok-take_back.ensures in
    let above = c.if-last-upto.false in
    let left =
    taken_back c.args.upto c.loop-last.steps.items c.deref.result.now c.take_back.new.steps.items back.0 c.in-Some.last.now c.loop-last.pairs c.take_back.new.pairs c.loop-last.invariant.rises c.deref.ensures.value c.in-Some.ensures.item.1 (omega arith)
    back.1 back.2 in
    record { rises = left.0; pairs = left.1 ∙ c.loop-last.invariant.pairs; steps = left.2 ∙ c.loop-last.invariant.steps }
