-- Rising numbers below 16 are at most 16, and without one that is in at most 15.
use Rattle.std.proofs.Common.{◌≡◌, refl, sym, subst, ℕ, zero, suc, ◌+◌, ◌<◌, ◌≤◌, ⊎_elim, Bool, true, false, cond, not, ◌||◌, ◌==◌, List, [], ◌∷◌, map, length, eqb-true, eq-eqb, arith}
use Rattle.std.proofs.lemmas.Bool.{both_ways, or_cases}
use Rattle.std.specs.List.{AllByRecursion, filter}
use Rattle.clv_base.specs.Orders.{nat_in}
use Rattle.std.specs.List.Sorted.{IsStrictlySortedBy}
use Rattle.std.specs.Ordering.{nat_cmp}
use Rattle.clv_base.specs.Coordinator.{others}
use Rattle.two_phase_commit.proofs.Acked.{no_more}
use Rattle.law_base.proofs.Lists.{filter_fewer}

-- the numbers below n
abbrev below : ℕ → List ℕ
below zero = []
below (suc n) = n ∷ below n

below_length : (n : ℕ) → length (below n) ≡ n
below_length zero = refl
below_length (suc n) = let h = below_length n in omega (arith, h)

in_below : (k n : ℕ) → k < n → nat_in k (below n) ≡ true
in_below k zero h = absurd (omega (arith, h))
in_below k (suc n) h = at (k == n) refl (in_below k n)
  where
    at : (b : Bool) → (k == n) ≡ b → (k < n → nat_in k (below n) ≡ true) → (b || nat_in k (below n)) ≡ true
    at true e more = refl
    at false e more = more (let ne : k ≡ n → ⊥ = λ s. both_ways (k == n) e (eq-eqb k n s) in omega (arith, h, ne))

-- one of touched shards that are low is low
pub low_in : (k : ℕ) (ts : List (ℕ × ℕ)) → AllByRecursion (λ t. t.0 < 16) ts → nat_in k (map (λ t. t.0) ts) ≡ true → k < 16
low_in k [] a e = absurd (both_ways false refl e)
low_in k (t ∷ ts) a e = ⊎_elim (λ s. subst (λ n. n < 16) (sym (eqb-true k t.0 s)) a.0) (λ h. low_in k ts a.1 h) (or_cases (k == t.0) (nat_in k (map (λ t. t.0) ts)) e)

one_less : (s : ℕ) (ns : List ℕ) → nat_in s ns ≡ true → length (filter (λ p. not (p == s)) ns) + 1 ≤ length ns
one_less s [] e = absurd (both_ways false refl e)
one_less s (n ∷ ns) e = at (n == s) refl (one_less s ns)
  where
    rest : List ℕ
    rest = filter (λ p. not (p == s)) ns

    at : (b : Bool) → (n == s) ≡ b → (nat_in s ns ≡ true → length rest + 1 ≤ length ns) → length (cond (not b) (n ∷ rest) rest) + 1 ≤ length (n ∷ ns)
    at true f more = let h = filter_fewer (λ p. not (p == s)) ns in omega (arith, h)
    at false f more =
        let there : nat_in s ns ≡ true = ⊎_elim (λ (i : (s == n) ≡ true). absurd (both_ways (n == s) f (eq-eqb n s (sym (eqb-true s n i))))) (λ i. i) (or_cases (s == n) (nat_in s ns) e) in
        let h = more there in omega (arith, h)

-- where the touched shards rise, are below 16 and have the home among them, the others are at most 15
pub few_others : (shard : ℕ) (touched : List (ℕ × ℕ)) → IsStrictlySortedBy nat_cmp (map (λ t. t.0) touched) → AllByRecursion (λ t. t.0 < 16) touched
    → nat_in shard (map (λ t. t.0) touched) ≡ true → length (others shard touched) ≤ 15
few_others shard touched rising low own =
    let ns = map (λ (t : ℕ × ℕ). t.0) touched in
    let most = no_more ns (below 16) rising (λ k i. in_below k 16 (low_in k touched low i)) in
    let count = below_length 16 in let less = one_less shard ns own in
    omega (arith, most, count, less)
