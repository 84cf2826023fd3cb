-- The span of a shard holds exactly the keys whose shard it is.
use Rattle.std.proofs.Common.{◌≡◌, ℕ, zero, suc, pred, ◌+◌, ◌-◌, ◌<◌, ◌≤◌, ◌^◌, Bool, true, false, cond, ◌&&◌, List, [], ◌∷◌, length, Some, None, ◌==◌, nat_lt, nat_le, ◌⊎◌, inl, inr, ⊎_elim, refl, sym, ap, subst, ◌∙◌, arith}
use Rattle.std.specs.Prelude.{is_none, slice_index_or, IsTrue}
use Rattle.std.proofs.lemmas.List.Sums.{sum_by-cons}
use Rattle.std.proofs.lemmas.Bool.{both_ways, cases_lt, cases_order, ltb-true, ltb-false, leb-true, leb-false, lt-ltb, le-ltb, le-leb, lt-leb, eq-eqb, ne_eqb, and_parts}
use Rattle.clv_base.specs.Shards.{shard_of, first_key, span_between, span, lies_within, not_rising_from, not_rising, are_splits}

-- ---- lists that rise

abbrev pub RisesFrom : ℕ → List ℕ → Type 0
RisesFrom before [] = Unit {0}
RisesFrom before (s ∷ ss) = (before < s) × RisesFrom s ss

pub rises_from : (n before : ℕ) (ss : List ℕ) → is_none (not_rising_from n before ss) ≡ true → RisesFrom before ss
rises_from n before [] e = tt
rises_from n before (s ∷ ss) e = at (nat_lt before s) refl e (rises_from (suc n) s ss)
  where
    at : (b : Bool) → nat_lt before s ≡ b → is_none (cond b (not_rising_from (suc n) s ss) (Some n)) ≡ true → (is_none (not_rising_from (suc n) s ss) ≡ true → RisesFrom s ss) → RisesFrom before (s ∷ ss)
    at true l h ih = (ltb-true before s l, ih h)
    at false l h ih = absurd (both_ways false refl h)

abbrev pub Rises : List ℕ → Type 0
Rises [] = Unit {0}
Rises (s ∷ ss) = RisesFrom s ss

pub rises : (splits : List ℕ) → IsTrue (are_splits splits) → Rises splits
rises [] h = tt
rises (s ∷ ss) h = rises_from 2 s ss (and_parts (nat_le (length (s ∷ ss)) 15) (is_none (not_rising (s ∷ ss))) h).1

-- ---- how many splits are at most a key

-- the least key of the shard n
abbrev pub start : List ℕ → ℕ → ℕ
start splits zero = 0
start splits (suc n) = first_key splits n

above_first : (before key : ℕ) (ss : List ℕ) → RisesFrom before ss → key < 2 ^ 64 → key ≤ before → key < first_key ss 0
above_first before key [] r f l = f
above_first before key (s ∷ ss) r f l = let up = r.0 in omega arith

-- one split more
one_more : (s key : ℕ) (ss : List ℕ) → shard_of (s ∷ ss) key ≡ cond (nat_le s key) 1 0 + shard_of ss key
one_more s key ss = sum_by-cons (λ x. cond (nat_le x key) 1 0) s ss

-- a shard's number is at most that of a key exactly where the shard begins at most at the key
abbrev Ordered : ℕ → ℕ → ℕ → ℕ → Type 0
Ordered begin key n count = (n ≤ count → begin ≤ key) × (begin ≤ key → n ≤ count)

-- the first split is at most the key: the others decide
passed : (s key n : ℕ) (ss : List ℕ) → s ≤ key → Ordered (start ss n) key n (shard_of ss key) → Ordered (first_key (s ∷ ss) n) key (suc n) (1 + shard_of ss key)
passed s key zero ss l o = ((λ h. l), (λ h. omega arith))
passed s key (suc n) ss l o = ((λ h. o.0 (omega (arith, h))), (λ h. let p = o.1 h in omega (arith, p)))

-- it is greater: no split is at most the key
none_passed : (s key count : ℕ) (ss : List ℕ) → key < 2 ^ 64 → key < s → RisesFrom s ss → Ordered (first_key ss 0) key 1 count → count ≡ 0
none_passed s key zero ss f l r o = refl
none_passed s key (suc c) ss f l r o = let up = above_first s key ss r f (omega (arith, l)) in let p = o.0 (omega arith) in absurd (omega (arith, up, p))

kept : (s key n : ℕ) (ss : List ℕ) → key < s → shard_of ss key ≡ 0 → Ordered (start ss n) key n (shard_of ss key) → Ordered (first_key (s ∷ ss) n) key (suc n) (0 + shard_of ss key)
kept s key zero ss l none o = ((λ h. absurd (omega (arith, h, none))), (λ h. absurd (omega (arith, h, l))))
kept s key (suc n) ss l none o = ((λ h. absurd (omega (arith, h, none))), (λ h. let p = o.1 h in absurd (omega (arith, p, none))))

first_split : (s key n : ℕ) (ss : List ℕ) (b : Bool) → nat_le s key ≡ b → key < 2 ^ 64 → RisesFrom s ss → ((m : ℕ) → Ordered (start ss m) key m (shard_of ss key)) → Ordered (first_key (s ∷ ss) n) key (suc n) (cond b 1 0 + shard_of ss key)
first_split s key n ss true e f r o = passed s key n ss (leb-true s key e) (o n)
first_split s key n ss false e f r o = let l : key < s = leb-false s key e in kept s key n ss l (none_passed s key (shard_of ss key) ss f l r (o 1)) (o n)

pub others_rise : (s : ℕ) (ss : List ℕ) → RisesFrom s ss → Rises ss
others_rise s [] r = tt
others_rise s (t ∷ ts) r = r.1

ordered : (splits : List ℕ) (key n : ℕ) → Rises splits → key < 2 ^ 64 → Ordered (start splits n) key n (shard_of splits key)
ordered splits key zero r f = ((λ h. omega arith), (λ h. omega arith))
ordered [] key (suc n) r f = ((λ h. absurd (omega (arith, h))), (λ h. absurd (omega (arith, h, f))))
ordered (s ∷ ss) key (suc n) r f =
    subst (Ordered (first_key (s ∷ ss) n) key (suc n)) (sym (one_more s key ss))
    (first_split s key n ss (nat_le s key) refl f r (λ m. ordered ss key m (others_rise s ss r) f))

-- ---- spans

pub span_is : (splits : List ℕ) (n : ℕ) → span splits n ≡ span_between (start splits n) (first_key splits n)
span_is splits zero = refl
span_is splits (suc n) = refl

-- a key lies in a span by its bounds
in_bounds : (lo end key : ℕ) (b : Bool) → nat_lt lo end ≡ b → lies_within (cond b (Some (lo, pred end)) None) key ≡ (nat_le lo key && nat_lt key end)
in_bounds lo zero key true e = absurd (omega (arith, ltb-true lo zero e))
in_bounds lo (suc end) key true e = ap (λ c. nat_le lo key && c) (below end key)
  where
    below : (end key : ℕ) → nat_le key end ≡ nat_lt key (suc end)
    below end key = ⊎_elim (λ l. lt-leb key end l ∙ sym (le-ltb key (suc end) (omega (arith, l)))) (λ l. le-leb key end l ∙ sym (lt-ltb key (suc end) (omega (arith, l)))) (cases_lt end key)
in_bounds lo end key false e = sym (outside (cases_lt key lo))
  where
    beyond : end ≤ lo
    beyond = ltb-false lo end e

    outside : (key < lo) ⊎ (lo ≤ key) → (nat_le lo key && nat_lt key end) ≡ false
    outside (inl l) = ap (λ c. c && nat_lt key end) (lt-leb lo key l)
    outside (inr l) = ap (λ c. nat_le lo key && c) (le-ltb key end (omega (arith, l, beyond))) ∙ and_false (nat_le lo key)
      where
        and_false : (c : Bool) → (c && false) ≡ false
        and_false true = refl
        and_false false = refl

-- between two starts lie the keys with this number
between : (lo end key n count : ℕ) → Ordered lo key n count → Ordered end key (suc n) count → (nat_le lo key && nat_lt key end) ≡ (count == n)
between lo end key n count o p = by_order (cases_order count n)
  where
    by_order : (count ≡ n) ⊎ ((count < n) ⊎ (n < count)) → (nat_le lo key && nat_lt key end) ≡ (count == n)
    by_order (inl e) =
        ap (λ c. c && nat_lt key end) (le-leb lo key (o.0 (omega (arith, e))))
        ∙ lt-ltb key end (not_beyond (cases_lt key end)) ∙ sym (eq-eqb count n e)
      where
        not_beyond : (key < end) ⊎ (end ≤ key) → key < end
        not_beyond (inl l) = l
        not_beyond (inr l) = let q = p.1 l in absurd (omega (arith, q, e))
    by_order (inr (inl l)) = ap (λ c. c && nat_lt key end) (lt-leb lo key (not_yet (cases_lt key lo))) ∙ sym (ne_eqb count n (λ e. omega (arith, e, l)))
      where
        not_yet : (key < lo) ⊎ (lo ≤ key) → key < lo
        not_yet (inl k) = k
        not_yet (inr k) = let q = o.1 k in absurd (omega (arith, q, l))
    by_order (inr (inr l)) = ap (λ c. nat_le lo key && c) (le-ltb key end (p.0 (omega (arith, l)))) ∙ and_no (nat_le lo key) ∙ sym (ne_eqb count n (λ e. omega (arith, e, l)))
      where
        and_no : (c : Bool) → (c && false) ≡ false
        and_no true = refl
        and_no false = refl

pub span_keys : (splits : List ℕ) (n key : ℕ) → IsTrue (are_splits splits) → key < 2 ^ 64 → lies_within (span splits n) key ≡ (shard_of splits key == n)
span_keys splits n key s f =
    ap (λ o. lies_within o key) (span_is splits n)
    ∙ in_bounds (start splits n) (first_key splits n) key (nat_lt (start splits n) (first_key splits n)) refl
    ∙ between (start splits n) (first_key splits n) key n (shard_of splits key) (ordered splits key n (rises splits s) f) (ordered splits key (suc n) (rises splits s) f)

-- ---- the split at a place

pub first_key_at : (splits : List ℕ) (n : ℕ) → n < length splits → first_key splits n ≡ slice_index_or splits n 0
first_key_at [] n h = absurd (omega (arith, h))
first_key_at (s ∷ ss) zero h = refl
first_key_at (s ∷ ss) (suc n) h = first_key_at ss n (omega (arith, h))

pub first_key_past : (splits : List ℕ) (n : ℕ) → length splits ≤ n → first_key splits n ≡ 2 ^ 64
first_key_past [] n h = refl
first_key_past (s ∷ ss) zero h = absurd (omega (arith, h))
first_key_past (s ∷ ss) (suc n) h = first_key_past ss n (omega (arith, h))

pub start_at : (splits : List ℕ) (place : ℕ) → place ≤ length splits → (place ≡ 0 → ⊥) → slice_index_or splits (place - 1) 0 ≡ start splits place
start_at splits zero h some = absurd (some refl)
start_at splits (suc n) h some = ap (λ k. slice_index_or splits k 0) (one_less n) ∙ sym (first_key_at splits n (omega (arith, h)))
  where
    one_less : (n : ℕ) → suc n - 1 ≡ n
    one_less n = omega arith

-- ---- the span at a place, by what stands there

pub past_all : (splits : List ℕ) (place : ℕ) → length splits < place → None ≡ span splits place
past_all splits zero h = absurd (omega (arith, h))
past_all splits (suc n) h = sym (ap (λ a. span_between a (first_key splits (suc n))) (first_key_past splits n (omega (arith, h))) ∙ ap (span_between (2 ^ 64)) (first_key_past splits (suc n) (omega (arith, h))))

pub at_last : (splits : List ℕ) (place first : ℕ) → place ≡ length splits → first ≡ start splits place → first < 2 ^ 64 → Some (first, 18446744073709551615) ≡ span splits place
at_last splits place first e s f =
    sym
    (span_is splits place
    ∙ ap (λ a. span_between a (first_key splits place)) (sym s)
    ∙ ap (span_between first) (first_key_past splits place (omega (arith, e)))
    ∙ ap (λ b. cond b (Some (first, 18446744073709551615)) None) (lt-ltb first (2 ^ 64) f))

by_next : (splits : List ℕ) (place first next : ℕ) (b : Bool) → first ≡ start splits place → first_key splits place ≡ next → nat_lt first next ≡ b → span splits place ≡ cond b (Some (first, pred next)) None
by_next splits place first next b s n t =
    span_is splits place
    ∙ ap (λ a. span_between a (first_key splits place)) (sym s)
    ∙ ap (span_between first) n
    ∙ ap (λ c. cond c (Some (first, pred next)) None) t

pub at_next : (splits : List ℕ) (place first : ℕ) → place < length splits → first ≡ start splits place → first < slice_index_or splits place 0 → Some (first, slice_index_or splits place 0 - 1) ≡ span splits place
at_next splits place first h s l =
    ap (λ k. Some (first, k)) (less (slice_index_or splits place 0))
    ∙ sym (by_next splits place first (slice_index_or splits place 0) true s (first_key_at splits place h) (lt-ltb first (slice_index_or splits place 0) l))
  where
    less : (n : ℕ) → n - 1 ≡ pred n
    less zero = refl
    less (suc n) = omega arith

pub none_next : (splits : List ℕ) (place first : ℕ) → place < length splits → first ≡ start splits place → slice_index_or splits place 0 ≤ first → None ≡ span splits place
none_next splits place first h s l = sym (by_next splits place first (slice_index_or splits place 0) false s (first_key_at splits place h) (le-ltb first (slice_index_or splits place 0) l))
