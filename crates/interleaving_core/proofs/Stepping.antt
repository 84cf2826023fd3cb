-- A list of steps, one after another.
use Rattle.std.proofs.Common.{◌≡◌, refl, sym, ap, ◌∙◌, ℕ, suc, ◌+◌, ◌<◌, ◌≤◌, false, List, ◌∷◌, length, drop, get_or, drop-cons, arith, Result, Ok, Err}
use Rattle.std.specs.Prelude.{OnOk, is_err}
use Rattle.std.proofs.lemmas.Bool.{both_ways}
use Rattle.std.proofs.lemmas.List.{drop_all}
use Rattle.clv_base.specs.declared.events.CoreStep.{CoreStep}
use Rattle.clv_base.specs.Core.{World}
use Rattle.clv_base.specs.Runs.{run_from}
use Rattle.crash_laws.specs.Running.{run_step}

-- what holds of a call that succeeded
pub when_ok : {A E : Type 0} (r : Result A E) (P : Type 0) → false ≡ is_err r → OnOk r P → P
when_ok (Ok a) P e p = p
when_ok (Err x) P e p = absurd (both_ways false refl e)

-- the next step is made, and the rest are left
pub steps_more : (splits : List ℕ) (cs : List CoreStep) (i : ℕ) (c : CoreStep) (w v all : World) → i < length cs → c ≡ get_or cs i c → v ≡ run_step splits w c
    → run_from splits (drop i cs) w ≡ all → run_from splits (drop (i + 1) cs) v ≡ all
steps_more splits cs i c w v all l is step b =
    let one : i + 1 ≡ suc i = omega arith in
    let cut : drop i cs ≡ c ∷ drop (suc i) cs = drop-cons cs i c l ∙ ap (λ x. x ∷ drop (suc i) cs) (sym is) in
    ap (λ n. run_from splits (drop n cs) v) one ∙ ap (run_from splits (drop (suc i) cs)) step ∙ sym (ap (λ t. run_from splits t w) cut) ∙ b

-- none is left
pub steps_all : (splits : List ℕ) (cs : List CoreStep) (i : ℕ) (w all : World) → length cs ≤ i → run_from splits (drop i cs) w ≡ all → w ≡ all
steps_all splits cs i w all l b = sym (ap (λ t. run_from splits t w) (drop_all i cs l)) ∙ b
