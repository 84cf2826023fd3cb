-- All shards, one after another, of which one is asked next.
use Rattle.std.proofs.Common.{◌≡◌, ◌≢◌, ℕ, ◌<◌, ◌+◌, Bool, false, Option, sym, ◌∙◌, ap, subst, arith}
use mathlib.Core.Logic.{dite}
use native.Mathlib.Decide.{ℕ_discrete}
use Rattle.io_model.specs.Sides.{Stories}
use Rattle.io_model.specs.Disk.{Tells}

module _ (k : ℕ) where
  pub inside_still : (o o1 : ℕ → Bool × Bool) → ((n : ℕ) → n < 16 → o n ≡ (false, false)) → o1 k ≡ (false, false) → ((n : ℕ) → n ≢ k → o1 n ≡ o n) → (n : ℕ) → n < 16 → o1 n ≡ (false, false)
  inside_still o o1 inside back others n low = dite (ℕ_discrete n k) (λ is. ap o1 is ∙ back) (λ other. others n other ∙ inside n low)

  pub told_still : (R : Stories → Stories → Type 0) (s s1 s2 : ℕ → Option Stories) → ((n : ℕ) → Tells (s n) (s1 n) R) → s1 k ≡ s k → Tells (s1 k) (s2 k) R → ((n : ℕ) → n ≢ k → s2 n ≡ s1 n) → (n : ℕ) → Tells (s n) (s2 n) R
  told_still R s s1 s2 all first here others n = dite (ℕ_discrete n k)
      (λ is. subst (λ (z : ℕ). Tells (s z) (s2 z) R) (sym is) (subst (λ (o : Option Stories). Tells o (s2 k) R) first here))
      (λ other. subst (λ (o : Option Stories). Tells (s n) o R) (sym (others n other)) (all n))

  pub counts_still : (f f1 f2 : ℕ → ℕ) → ((n : ℕ) → f1 n ≡ f n) → f2 k ≡ f1 k → ((n : ℕ) → n ≢ k → f2 n ≡ f1 n) → (n : ℕ) → f2 n ≡ f n
  counts_still f f1 f2 all here others n = dite (ℕ_discrete n k) (λ is. ap f2 is ∙ here ∙ ap f1 (sym is) ∙ all n) (λ other. others n other ∙ all n)

  -- what holds of those before, and of the next one
  pub up_to : (P : ℕ → Type 0) → ((n : ℕ) → n < k → P n) → P k → (n : ℕ) → n < k + 1 → P n
  up_to P below here n low = dite (ℕ_discrete n k) (λ is. subst P (sym is) here) (λ other. below n (omega (arith, other)))

  -- what one more did, of those before and of that one
  pub told_up_to : (R : ℕ → Stories → Stories → Type 0) (s s1 s2 : ℕ → Option Stories) → ((n : ℕ) → n < k → Tells (s n) (s1 n) (R n)) → s1 k ≡ s k → Tells (s1 k) (s2 k) (R k) → ((n : ℕ) → n ≢ k → s2 n ≡ s1 n) → (n : ℕ) → n < k + 1 → Tells (s n) (s2 n) (R n)
  told_up_to R s s1 s2 below first here others = up_to (λ n. Tells (s n) (s2 n) (R n))
      (λ n low. subst (λ (o : Option Stories). Tells (s n) o (R n)) (sym (others n (λ is. absurd (omega (arith, is, low))))) (below n low))
      (subst (λ (o : Option Stories). Tells o (s2 k) (R k)) first here)
