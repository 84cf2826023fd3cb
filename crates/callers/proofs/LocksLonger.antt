-- One call more behind those that were made.
use Rattle.std.proofs.Common.{refl, ap, subst, List, [], ◌∷◌, ◌++◌}
use Rattle.clv_base.specs.Locks.{Locks}
use Rattle.callers.specs.declared.lock_calls.LockCall.{LockCall}
use Rattle.callers.specs.declared.lock_answers.LockAnswer.{LockAnswer}
use Rattle.callers.specs.LockRuns.{Does, Runs}

pub runs-longer : (cs : List LockCall) (c : LockCall) (done : List LockAnswer) (a : LockAnswer) (before between after : Locks) → Runs cs done before between → Does c a between after
    → Runs (cs ++ c ∷ []) (done ++ a ∷ []) before after
runs-longer [] c done a before between after r d = (a, [], after, ap (λ l. l ++ a ∷ []) r.0, subst (λ x. Does c a x after) r.1 d, (refl, refl))
runs-longer (x ∷ xs) c done a before between after r d = (r.0, r.1 ++ a ∷ [], r.2, ap (λ l. l ++ a ∷ []) r.3, r.4, runs-longer xs c r.1 a r.2 between after r.5 d)
