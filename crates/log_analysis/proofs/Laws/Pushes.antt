-- What one more record at the end of a log changes.
use Rattle.std.proofs.Common.{◌≡◌, ℕ, Bool, true, false, ◌&&◌, ◌||◌, List, [], ◌∷◌, ◌++◌, None, refl, sym, ap, ◌∙◌, append_assoc, nat_lt, ◌==◌}
use Rattle.std.specs.List.{list_any}
use Rattle.clv_base.specs.declared.logs.LogRecord.{LogRecord}
use Rattle.clv_base.specs.declared.logs.LogRecord.TheVariants.{Restart, Check}
use Rattle.clv_base.specs.LogRules.{last_restart, above_restarts, before_restart}
use Rattle.law_base.proofs.Bools.{or_assoc, or_false}

pub and_true : (a : Bool) → a && true ≡ a
and_true true = refl
and_true false = refl

and_assoc : (a b c : Bool) → (a && b) && c ≡ a && (b && c)
and_assoc true b c = refl
and_assoc false b c = refl

pub any_push : {X : Type 0} (test : X → Bool) (xs : List X) (y : X) → list_any test (xs ++ y ∷ []) ≡ list_any test xs || test y
any_push test [] y = or_false (test y)
any_push test (x ∷ xs) y = ap (λ (b : Bool). test x || b) (any_push test xs y) ∙ sym (or_assoc (test x) (list_any test xs) (test y))

-- ---- RESTARTs

pub last_restart_other : (log : List LogRecord) (r : LogRecord) → last_restart (r ∷ []) ≡ None → last_restart (log ++ r ∷ []) ≡ last_restart log
last_restart_other [] r other = other
last_restart_other (Restart run epoch ∷ rs) r other = rw (last_restart_other rs r other) refl
last_restart_other (Check run epoch upto base ∷ rs) r other = rw (last_restart_other rs r other) refl
last_restart_other (_ ∷ rs) r other = last_restart_other rs r other

pub above_push : (run epoch : ℕ) (log : List LogRecord) (r : LogRecord) → above_restarts run epoch (log ++ r ∷ []) ≡ above_restarts run epoch log && above_restarts run epoch (r ∷ [])
above_push run epoch [] r = refl
above_push run epoch (Restart run' epoch' ∷ rs) r =
    let test : Bool = nat_lt run' run || ((run' == run) && nat_lt epoch' epoch) in
    ap (λ (b : Bool). test && b) (above_push run epoch rs r) ∙ sym (and_assoc test (above_restarts run epoch rs) (above_restarts run epoch (r ∷ [])))
above_push run epoch (Check run' epoch' upto base ∷ rs) r =
    let test : Bool = nat_lt run' run || ((run' == run) && nat_lt epoch' epoch) in
    ap (λ (b : Bool). test && b) (above_push run epoch rs r) ∙ sym (and_assoc test (above_restarts run epoch rs) (above_restarts run epoch (r ∷ [])))
above_push run epoch (_ ∷ rs) r = above_push run epoch rs r

pub before_restart_push : (so_far log : List LogRecord) (run epoch : ℕ) → before_restart so_far (log ++ Restart run epoch ∷ []) ≡ so_far ++ log
before_restart_push so_far [] run epoch = refl
before_restart_push so_far (Restart r e ∷ rs) run epoch = ap (λ (l : List LogRecord). so_far ++ l) (before_restart_push (Restart r e ∷ []) rs run epoch)
before_restart_push so_far (Check r e upto base ∷ rs) run epoch = ap (λ (l : List LogRecord). so_far ++ l) (before_restart_push (Check r e upto base ∷ []) rs run epoch)
before_restart_push so_far (h ∷ rs) run epoch = before_restart_push (so_far ++ h ∷ []) rs run epoch ∙ append_assoc so_far (h ∷ []) rs

pub before_restart_other : (so_far log : List LogRecord) (r : LogRecord) → ((s : List LogRecord) → before_restart s (r ∷ []) ≡ []) → before_restart so_far (log ++ r ∷ []) ≡ before_restart so_far log
before_restart_other so_far [] r other = other so_far
before_restart_other so_far (Restart run epoch ∷ rs) r other = ap (λ (l : List LogRecord). so_far ++ l) (before_restart_other (Restart run epoch ∷ []) rs r other)
before_restart_other so_far (Check run epoch upto base ∷ rs) r other = ap (λ (l : List LogRecord). so_far ++ l) (before_restart_other (Check run epoch upto base ∷ []) rs r other)
before_restart_other so_far (h ∷ rs) r other = before_restart_other (so_far ++ h ∷ []) rs r other
