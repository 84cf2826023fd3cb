-- Places without a vote, and places enough.
use Rattle.std.proofs.Common.{◌≡◌, refl, sym, eqb-true, ◌==◌, false, is_none, ℕ, zero, suc, ◌+◌, ◌<◌, ◌≤◌, List, [], ◌∷◌, Option, Some, None, drop, drop-cons, add-one, get_or, length, arith}
use Rattle.std.specs.List.{AllByRecursion, list_all}
use Rattle.std.proofs.lemmas.Bool.{false_from_ne_true}
use Rattle.clv_base.specs.Arrays.{present_from}

-- what can't be a vote is none
pub none_given : {X : Type 0} (P : Option X → Type 0) (k : ℕ) (os : List (Option X)) → AllByRecursion P os → ((x : X) → P (Some x) → ⊥) → present_from k os ≡ []
none_given P k [] a none = refl
none_given P k (None ∷ os) a none = none_given P (suc k) os a.1 none
none_given P k (Some x ∷ os) a none = absurd (none x a.0)

not_none : (n : ℕ) → false ≡ (suc n == 0)
not_none n = sym (false_from_ne_true (suc n == 0) (λ i. let e = eqb-true (suc n) 0 i in omega (arith, e)))

-- no place has a vote exactly where there is none
pub nobody : {X : Type 0} (k : ℕ) (os : List (Option X)) → list_all (λ o. is_none o) os ≡ (length (present_from k os) == 0)
nobody k [] = refl
nobody k (None ∷ os) = nobody (suc k) os
nobody k (Some x ∷ os) = not_none (length (present_from (suc k) os))

-- the shards are below each number that is no less than the count, where those of the rest are
abbrev pub AreEnough : ℕ → List (ℕ × ℕ) → List (ℕ × ℕ) → Type 0
AreEnough count rest all = (n : ℕ) → count ≤ n → AllByRecursion (λ t. t.0 < n) rest → AllByRecursion (λ t. t.0 < n) all

pub cut_at : (i : ℕ) (ts : List (ℕ × ℕ)) (d : ℕ × ℕ) → i < length ts → drop i ts ≡ get_or ts i d ∷ drop (i + 1) ts
cut_at i ts d h = rw (add-one, drop-cons ts i d) refl

pub one_more : (count more : ℕ) (rest all : List (ℕ × ℕ)) (t : ℕ × ℕ) → count ≤ more → t.0 < more → AreEnough count (t ∷ rest) all → AreEnough more rest all
one_more count more rest all t le lt h n m a = h n (omega (arith, le, m)) (let low : t.0 < n = omega (arith, lt, m) in (low, a))

pub all_left : (n i : ℕ) (ts : List (ℕ × ℕ)) → length ts ≤ i → AllByRecursion (λ t. t.0 < n) (drop i ts)
all_left n zero [] h = tt
all_left n zero (t ∷ ts) h = absurd (omega (arith, h))
all_left n (suc i) [] h = tt
all_left n (suc i) (t ∷ ts) h = all_left n i ts (omega (arith, h))
