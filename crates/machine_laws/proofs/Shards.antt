-- Lists of shards: those that rise and are below 16, what stays of them, and how many they are without one that is below 16.
use Rattle.std.proofs.Common.{◌≡◌, refl, ◌∙◌, ℕ, suc, ◌+◌, ◌<◌, ◌≤◌, ⊎_elim, Bool, true, false, cond, not, ◌==◌, List, [], ◌∷◌, ◌++◌, map, length, nat_lt, nat_le, arith}
use Rattle.std.proofs.lemmas.Bool.{both_ways, and_parts, and_from, ltb-true, lt-ltb, le-leb, not-true, cases_order, eq-eqb}
use Rattle.std.proofs.lemmas.List.Folds.{list_all-append}
use Rattle.std.specs.List.{filter, list_all}
use Rattle.clv_base.specs.FileRules.{numbers_rise}
use Rattle.clv_base.specs.Coordinator.{others}

pub all_append : {X : Type 0} (p : X → Bool) (xs ys : List X) → list_all p xs ≡ true → list_all p ys ≡ true → list_all p (xs ++ ys) ≡ true
all_append p xs ys f g = list_all-append p xs ys ∙ and_from _ _ f g

pub all_filter : {X : Type 0} (p q : X → Bool) (xs : List X) → list_all p xs ≡ true → list_all p (filter q xs) ≡ true
all_filter p q [] h = refl
all_filter p q (x ∷ xs) h = let two = and_parts (p x) (list_all p xs) h in at (q x) two.0 (all_filter p q xs two.1)
  where
    at : (b : Bool) → p x ≡ true → list_all p (filter q xs) ≡ true → list_all p (cond b (x ∷ filter q xs) (filter q xs)) ≡ true
    at true k more = and_from _ _ k more
    at false k more = more

pub filter_passes : {X : Type 0} (q : X → Bool) (xs : List X) → list_all q (filter q xs) ≡ true
filter_passes q [] = refl
filter_passes q (x ∷ xs) = at (q x) refl (filter_passes q xs)
  where
    at : (b : Bool) → q x ≡ b → list_all q (filter q xs) ≡ true → list_all q (cond b (x ∷ filter q xs) (filter q xs)) ≡ true
    at true k more = and_from _ _ k more
    at false k more = more

pub all_map : {X Y : Type 0} (f : X → Y) (p : Y → Bool) (xs : List X) → list_all (λ x. p (f x)) xs ≡ true → list_all p (map f xs) ≡ true
all_map f p [] h = refl
all_map f p (x ∷ xs) h = let two = and_parts (p (f x)) (list_all (λ x. p (f x)) xs) h in and_from _ _ two.0 (all_map f p xs two.1)

-- ---- numbers that rise from a number on

Above : ℕ → List ℕ → Type 0
Above lo [] = Unit {0}
Above lo (n ∷ ns) = (lo ≤ n) × Above (suc n) ns

above_first : (n : ℕ) (ns : List ℕ) → numbers_rise (n ∷ ns) ≡ true → Above (suc n) ns
unfolding Above
above_first n [] h = tt
above_first n (m ∷ ms) h = let two = and_parts (nat_lt n m) (numbers_rise (m ∷ ms)) h in let less = ltb-true n m two.0 in (omega (arith, less), above_first m ms two.1)

above_none : (ns : List ℕ) → numbers_rise ns ≡ true → Above 0 ns
unfolding Above
above_none [] h = tt
above_none (n ∷ ns) h = (omega arith, above_first n ns h)

rise_first : (n : ℕ) (ns : List ℕ) → Above (suc n) ns → numbers_rise (n ∷ ns) ≡ true
unfolding Above
rise_first n [] a = refl
rise_first n (m ∷ ms) a = let less : n < m = omega (arith, a.0) in and_from _ _ (lt-ltb n m less) (rise_first m ms a.1)

rise_all : (ns : List ℕ) → Above 0 ns → numbers_rise ns ≡ true
unfolding Above
rise_all [] a = refl
rise_all (n ∷ ns) a = rise_first n ns a.1

weaker : (lo hi : ℕ) (ns : List ℕ) → lo ≤ hi → Above hi ns → Above lo ns
unfolding Above
weaker lo hi [] h a = tt
weaker lo hi (n ∷ ns) h a = let b = a.0 in (omega (arith, h, b), a.1)

above_filter : (q : ℕ → Bool) (lo : ℕ) (ns : List ℕ) → Above lo ns → Above lo (filter q ns)
unfolding Above
above_filter q lo [] a = tt
above_filter q lo (n ∷ ns) a = at (q n) (above_filter q (suc n) ns a.1)
  where
    low : lo ≤ suc n
    low = let b = a.0 in omega (arith, b)

    at : (b : Bool) → Above (suc n) (filter q ns) → Above lo (cond b (n ∷ filter q ns) (filter q ns))
    at true more = (a.0, more)
    at false more = weaker lo (suc n) (filter q ns) low more

pub rise_filter : (q : ℕ → Bool) (ns : List ℕ) → numbers_rise ns ≡ true → numbers_rise (filter q ns) ≡ true
rise_filter q ns h = rise_all (filter q ns) (above_filter q 0 ns (above_none ns h))

-- ---- how many there are without one of the 16

abbrev FewFrom : ℕ → ℕ → List ℕ → Type 0
FewFrom s lo ns = (lo ≤ s → length ns + lo ≤ 15) × (s < lo → lo ≤ 16 → length ns + lo ≤ 16)

few_from : (s lo : ℕ) (ns : List ℕ) → s < 16 → Above lo ns → list_all (λ p. nat_lt p 16) ns ≡ true → list_all (λ p. not (p == s)) ns ≡ true → FewFrom s lo ns
unfolding Above
few_from s lo [] h a low other = (λ k. omega (arith, h, k), λ k m. omega (arith, m))
few_from s lo (n ∷ ns) h a low other =
    let lows = and_parts (nat_lt n 16) (list_all (λ p. nat_lt p 16) ns) low in let ones = and_parts (not (n == s)) (list_all (λ p. not (p == s)) ns) other in
    let more : FewFrom s (suc n) ns = few_from s (suc n) ns h a.1 lows.1 ones.1 in let top : n < 16 = ltb-true n 16 lows.0 in let from : lo ≤ n = a.0 in (
      λ k. ⊎_elim (λ (e : n ≡ s). absurd (both_ways (n == s) (not-true (n == s) ones.0) (eq-eqb n s e)))
          (λ w. ⊎_elim (λ (u : n < s). let count = more.0 (omega (arith, u)) in omega (arith, count, from)) (λ (u : s < n). let count = more.1 (omega (arith, u)) (omega (arith, top)) in omega (arith, count, k, u)) w)
          (cases_order n s),
      λ k m. let count = more.1 (omega (arith, k, from)) (omega (arith, top)) in omega (arith, count, from),
    )

few_all : (s : ℕ) (ns : List ℕ) → s < 16 → numbers_rise ns ≡ true → list_all (λ p. nat_lt p 16) ns ≡ true → list_all (λ p. not (p == s)) ns ≡ true → length ns ≤ 15
few_all s ns h rise low other = let count = (few_from s 0 ns h (above_none ns rise) low other).0 (omega arith) in omega (arith, count)

-- ---- the others of touched shards, or some of them

-- shards that a COMMIT may name
pub record AreParts (ps : List ℕ) : Type 0 where
  pub few : nat_le (length ps) 15 ≡ true
  pub low : list_all (λ p. nat_lt p 16) ps ≡ true
  pub rise : numbers_rise ps ≡ true

pub others_low : (shard : ℕ) (touched : List (ℕ × ℕ)) → list_all (λ t. nat_lt t.0 16) touched ≡ true → list_all (λ p. nat_lt p 16) (others shard touched) ≡ true
others_low shard touched low = all_filter (λ p. nat_lt p 16) (λ p. not (p == shard)) (map (λ t. t.0) touched) (all_map (λ (t : ℕ × ℕ). t.0) (λ p. nat_lt p 16) touched low)

pub some_others : (q : ℕ → Bool) (shard : ℕ) (touched : List (ℕ × ℕ)) → nat_lt shard 16 ≡ true → numbers_rise (map (λ t. t.0) touched) ≡ true → list_all (λ t. nat_lt t.0 16) touched ≡ true
    → AreParts (filter q (others shard touched))
some_others q shard touched home rise low =
    let ns : List ℕ = filter q (others shard touched) in
    let rises : numbers_rise ns ≡ true = rise_filter q (others shard touched) (rise_filter (λ p. not (p == shard)) (map (λ t. t.0) touched) rise) in
    let lows : list_all (λ p. nat_lt p 16) ns ≡ true = all_filter (λ p. nat_lt p 16) q (others shard touched) (others_low shard touched low) in
    let other : list_all (λ p. not (p == shard)) ns ≡ true = all_filter (λ p. not (p == shard)) q (others shard touched) (filter_passes (λ p. not (p == shard)) (map (λ t. t.0) touched)) in
    record { few = le-leb (length ns) 15 (few_all shard ns (ltb-true shard 16 home) rises lows other); low = lows; rise = rises }
