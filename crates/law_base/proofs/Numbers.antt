-- Lemmas of numbers.
use Rattle.std.proofs.Common.{ℕ, Bool, cond, ◌≡◌, ◌<◌, arith, ◌≤◌, min, false, ◌==◌, sym, eq-eqb, suc, ◌+◌, ◌-◌, true, nat_lt}
use Rattle.std.proofs.lemmas.Bool.Decides.{nat_tests}
use Rattle.std.specs.Ordering.{nat_cmp, is_lt, is_eq}
use Rattle.std.proofs.lemmas.Bool.{both_ways, ne_eqb, ltb-true}
use Rattle.law_base.proofs.Bools.{eq_by}

abbrev pub one_if : Bool → ℕ
one_if b = cond b 1 0

pub one_at_most : (b : Bool) → one_if b ≤ 1
one_at_most true = omega arith
one_at_most false = omega arith

pub below_differs : (m n : ℕ) → m < n → m ≡ n → ⊥
below_differs m n l e = omega (arith, l, e)

pub under_min : (n x y : ℕ) → n ≤ x → n ≤ y → n ≤ min x y
under_min n x y a b = omega (arith, a, b)

pub unequal_flip : (a b : ℕ) → (a == b) ≡ false → (b == a) ≡ false
unequal_flip a b e = ne_eqb b a (λ s. both_ways _ e (eq-eqb a b (sym s)))

pub minus_suc : (n k : ℕ) → k < n → n - k ≡ suc (n - (k + 1))
minus_suc n k lt = omega arith

pub minus_none : (n k : ℕ) → n ≤ k → n - k ≡ 0
minus_none n k le = omega arith

pub unequal_test : (k j : ℕ) → (k ≡ j → ⊥) → (k == j) ≡ false
unequal_test k j h = ne_eqb k j h

pub lt_from : (a b : ℕ) → is_lt (nat_cmp a b) ≡ true → a < b
lt_from a b e = grind (arith, nat_tests)

pub cmp_eq : (a b : ℕ) → is_eq (nat_cmp a b) ≡ (a == b)
cmp_eq a b = eq_by (nat_lt a b) (a == b) (λ e. let l : a < b = ltb-true a b e in ne_eqb a b (λ q. absurd (omega arith)))
