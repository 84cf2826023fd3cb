use Rattle.std.proofs.Common.{◌≡◌, ℕ, suc, ◌+◌, false, List, ◌∷◌, drop, refl, sym, ap, ◌∙◌, subst, arith}
use Rattle.std.proofs.lemmas.Bool.{both_ways}
use Rattle.std.proofs.lemmas.List.{drop_more}
use Rattle.session_books.specs.Done.{Done}
use Rattle.clv_audit.specs.declared.steps.Step.{Step}
use Rattle.clv_audit.specs.Keeping.{ActGoes}
use Rattle.clv_audit.proofs.Going.{Going, going_first, going_rises, goes_on, goes_wrong}
use Rattle.clv_audit.proofs.steps.acts_are_right.Goals as goal

pub loop-done-init : goal.loop-done-init
loop-done-init c =
    record {
      number = refl;
      going = subst (λ (l : List Step). Going c.args.pairs.now c.args.acts.now c.args.acts.now 0 l c.args.pairs.now) (sym c.new-steps.ensures.items) (going_first c.args.pairs.now c.args.acts.now c.requires.rises c.requires.numbered);
    }

pub act-requires-clause-steps_rise : goal.act-requires-clause-steps_rise
act-requires-clause-steps_rise c = going_rises c.args.pairs.now c.args.acts.now _ c.loop-done.number c.loop-done.steps.items c.loop-done.pairs c.loop-done.invariant.going

pub returns-then-not-branch-clause-right : goal.returns-then-not-branch-clause-right
returns-then-not-branch-clause-right c =
    let i = c.loop-done.done-index in
    let n = c.loop-done.number in
    let d = c.done-item.result in
    let left = drop (i + 1) c.args.acts.now in
    let next : suc n ≡ n + 1 = omega arith in
    let own : drop i c.args.acts.now ≡ d ∷ left = drop_more c.args.acts.now i d c.loop-done-test.true ∙ ap (λ (x : Done). x ∷ left) (sym c.done-item.is) in
    let going = subst (λ (l : List Done). Going c.args.pairs.now c.args.acts.now l n c.loop-done.steps.items c.loop-done.pairs) own c.loop-done.invariant.going in
    let goes = subst (λ (k : ℕ). ActGoes d k c.loop-done.pairs c.loop-done.steps.items c.in_ok-act.field-0 c.act.new.pairs c.act.new.steps.items) (sym next) c.in_ok-act.ensures in (
      λ e. absurd (both_ways false refl e),
      λ same. absurd (goes_wrong c.args.pairs.now c.args.acts.now d left n c.loop-done.steps.items c.act.new.steps.items c.loop-done.pairs c.act.new.pairs c.in_ok-act.field-0 c.if-not-branch.true going goes same),
    )

pub loop-done-preserved : goal.loop-done-preserved
loop-done-preserved c =
    let i = c.loop-done.done-index in
    let n = c.loop-done.number in
    let d = c.done-item.result in
    let left = drop (i + 1) c.args.acts.now in
    let next : suc n ≡ n + 1 = omega arith in
    let own : drop i c.args.acts.now ≡ d ∷ left = drop_more c.args.acts.now i d c.loop-done-test.true ∙ ap (λ (x : Done). x ∷ left) (sym c.done-item.is) in
    let going = subst (λ (l : List Done). Going c.args.pairs.now c.args.acts.now l n c.loop-done.steps.items c.loop-done.pairs) own c.loop-done.invariant.going in
    let goes = subst (λ (k : ℕ). ActGoes d k c.loop-done.pairs c.loop-done.steps.items c.in_ok-act.field-0 c.act.new.pairs c.act.new.steps.items) (sym next) c.in_ok-act.ensures in
    record {
      number = ap (λ (k : ℕ). k + 1) c.loop-done.invariant.number;
      going = subst (λ (k : ℕ). Going c.args.pairs.now c.args.acts.now left k c.act.new.steps.items c.act.new.pairs) next
          (goes_on c.args.pairs.now c.args.acts.now d left n c.loop-done.steps.items c.act.new.steps.items c.loop-done.pairs c.act.new.pairs c.in_ok-act.field-0 c.if-not-branch.false going goes);
    }
