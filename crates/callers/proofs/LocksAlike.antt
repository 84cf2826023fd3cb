-- Calls that leave no choice have one answer over the same rows.
use Rattle.std.proofs.Common.{◌≡◌, sym, ap, ◌∙◌, subst, false, [], ◌∷◌}
use Rattle.std.specs.List.{list_any}
use Rattle.clv_base.specs.Locks.{Locks}
use Rattle.callers.specs.declared.lock_calls.LockCall.{LockCall}
use Rattle.callers.specs.declared.lock_calls.LockCall.TheVariants.{Take, SplitGap, ClosePart, Release, ReleaseNext, GapCount, Decide, Violated, IsFree, Holders}
use Rattle.callers.specs.declared.lock_answers.LockAnswer.{LockAnswer}
use Rattle.callers.specs.LockRuns.{Does, Runs, is_choice, TablesAnswerAlike}
use Rattle.law_base.proofs.Bools.{none_or as neither}

one_answer : (c : LockCall) (a b : LockAnswer) (before after other : Locks) → is_choice c ≡ false → Does c a before after → Does c b before other → (a ≡ b) × (after ≡ other)
one_answer (Take tx birth needs) a b before after other n r s = (r.0 ∙ sym s.0, r.1 ∙ sym s.1)
one_answer (SplitGap tx lower new) a b before after other n r s = (r.0 ∙ sym s.0, r.1 ∙ sym s.1)
one_answer (ClosePart tx) a b before after other n r s = (r.0 ∙ sym s.0, r.1 ∙ sym s.1)
one_answer (Release tx) a b before after other n r s = (r.0 ∙ sym s.0, r.1 ∙ sym s.1)
one_answer (ReleaseNext tx) a b before after other n r s = absurd cc
one_answer (GapCount anchor) a b before after other n r s = (r.0 ∙ sym s.0, r.1 ∙ sym s.1)
one_answer (Decide tx birth needs) a b before after other n r s = (r.0 ∙ sym s.0, r.1 ∙ sym s.1)
one_answer (Violated tx needs) a b before after other n r s = (r.0 ∙ sym s.0, r.1 ∙ sym s.1)
one_answer (IsFree anchor) a b before after other n r s = (r.0 ∙ sym s.0, r.1 ∙ sym s.1)
one_answer (Holders anchor) a b before after other n r s = (r.0 ∙ sym s.0, r.1 ∙ sym s.1)

pub alike : TablesAnswerAlike
alike [] told heard before after other n r s = (r.0 ∙ sym s.0, r.1 ∙ sym s.1)
alike (c ∷ cs) told heard before after other n r s =
    let none = neither (is_choice c) (list_any is_choice cs) n in
    let first = one_answer c r.0 s.0 before r.2 s.2 none.0 r.4 s.4 in
    let rest = alike cs r.1 s.1 r.2 after other none.1 r.5 (subst (λ x. Runs cs s.1 x other) (sym first.1) s.5) in
    (r.3 ∙ (ap (λ x. x ∷ r.1) first.0 ∙ ap (λ l. s.0 ∷ l) rest.0) ∙ sym s.3, rest.1)
