use Rattle.std.proofs.Common.{◌≡◌, ℕ, zero, suc, ◌+◌, ◌<◌, List, [], ◌∷◌, ◌++◌, length, get_or, sym, ap, ◌∙◌, subst, arith, Some, slice_get}
use Rattle.std.proofs.lemmas.List.{get_or_append_left, get_or_at}
use mathlib.Core.Logic.{dite}
use native.Mathlib.Decide.{ℕ_discrete}

module _ {X : Type 0} (P : ℕ → X → Type 0) where
  pub pushed_each : (xs : List X) (x : X) (n : ℕ) → length xs ≡ n → ((j : ℕ) (e : X) → j < n → P j (get_or xs j e)) → P n x → (j : ℕ) (e : X) → j < n + 1 → P j (get_or (xs ++ x ∷ []) j e)
  pushed_each xs x n len old new j e l = dite (ℕ_discrete j n)
      (λ same. subst (λ (y : X). P j y) (sym (ap (λ (i : ℕ). get_or (xs ++ x ∷ []) i e) same ∙ get_or_at xs x [] e n len)) (subst (λ (i : ℕ). P i x) (sym same) new))
      (λ other. let low : j < n = omega arith in subst (λ (y : X). P j y) (sym (get_or_append_left xs (x ∷ []) e j (omega arith))) (old j e low))

pub bodies_at : {A : Type 0} (xs : List A) (k : ℕ) (x d : A) → slice_get xs k ≡ Some x → get_or xs k d ≡ x
bodies_at [] k x d at = absurd cc
bodies_at (y ∷ ys) zero x d at = let it : Some y ≡ Some x = at in cc
bodies_at (y ∷ ys) (suc k) x d at = bodies_at ys k x d at
