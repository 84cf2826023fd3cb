-- Records whose keys rise, and the place of a key among them.
use Rattle.std.proofs.Common.{◌≡◌, ℕ, zero, suc, ◌+◌, ◌<◌, ◌≤◌, true, false, cond, nat_lt, [], ◌∷◌, length, get_or, Option, refl, sym, ap, ◌∙◌, nat_cmp, arith}
use Rattle.std.proofs.lemmas.Bool.{and_parts, and_from, ltb-true, lt-ltb}
use Rattle.std.specs.Ordering.{nat_cmp, is_lt}
use Rattle.std.specs.FinMap.{is_sorted}
use Rattle.std.specs.FinMap.Entries.{below_all}
use Rattle.std.specs.List.Sorted.{IsPartitionedBy, IsPartitionPoint}
use Rattle.clv_base.specs.declared.values.Value.{Value as ValueType}
use Rattle.clv_base.specs.Needs.{Records}
use Rattle.ordered_store.specs.Places.{count_below}
use Rattle.law_base.proofs.Numbers.{lt_from}
use Rattle.law_base.proofs.Anchors.{less_true as lt_to}

-- all keys are above k
abbrev pub Above : ℕ → Records → Type 0
Above k [] = Unit {0}
Above k (r ∷ rs) = (k < r.0) × Above k rs

abbrev pub Rises : Records → Type 0
Rises [] = Unit {0}
Rises (r ∷ rs) = Above r.0 rs × Rises rs

above_from : (k : ℕ) (rs : Records) → below_all nat_cmp k rs ≡ true → Above k rs
above_from k [] e = tt
above_from k (r ∷ rs) e = let p = and_parts (is_lt (nat_cmp k r.0)) (below_all nat_cmp k rs) e in (lt_from k r.0 p.0, above_from k rs p.1)

above_to : (k : ℕ) (rs : Records) → Above k rs → below_all nat_cmp k rs ≡ true
above_to k [] h = refl
above_to k (r ∷ rs) h = and_from (is_lt (nat_cmp k r.0)) (below_all nat_cmp k rs) (lt_to k r.0 h.0) (above_to k rs h.1)

pub rises_from : (rs : Records) → is_sorted nat_cmp rs ≡ true → Rises rs
rises_from [] e = tt
rises_from (r ∷ rs) e = let p = and_parts (below_all nat_cmp r.0 rs) (is_sorted nat_cmp rs) e in (above_from r.0 rs p.0, rises_from rs p.1)

pub rises_to : (rs : Records) → Rises rs → is_sorted nat_cmp rs ≡ true
rises_to [] h = refl
rises_to (r ∷ rs) h = and_from (below_all nat_cmp r.0 rs) (is_sorted nat_cmp rs) (above_to r.0 rs h.0) (rises_to rs h.1)

pub above_less : (j k : ℕ) (rs : Records) → j ≤ k → Above k rs → Above j rs
above_less j k [] l h = tt
above_less j k (r ∷ rs) l h = (omega (arith, h.0), above_less j k rs l h.1)

-- ---- the place of a key

-- how many records from the front on lie below the key
abbrev pub lows : ℕ → Records → ℕ
lows k [] = zero
lows k (r ∷ rs) = cond (nat_lt r.0 k) (suc (lows k rs)) zero

pub count_below-lows : (k : ℕ) (rs : Records) → count_below k rs ≡ lows k rs
count_below-lows k [] = refl
count_below-lows k (r ∷ rs) = let e : 1 + count_below k rs ≡ suc (lows k rs) = let h = count_below-lows k rs in omega arith in ap (λ n. cond (nat_lt r.0 k) n 0) e

pub above_at : (k : ℕ) (rs : Records) (j : ℕ) (d : ℕ × Option ValueType) → Above k rs → j < length rs → k < (get_or rs j d).0
above_at k [] j d h l = absurd (omega arith)
above_at k (r ∷ rs) zero d h l = h.0
above_at k (r ∷ rs) (suc j) d h l = above_at k rs j d h.1 (omega arith)

keys_rise : (rs : Records) (i j : ℕ) (d : ℕ × Option ValueType) → Rises rs → i ≤ j → j < length rs → (get_or rs i d).0 ≤ (get_or rs j d).0
keys_rise [] i j d h l m = absurd (omega arith)
keys_rise (r ∷ rs) zero zero d h l m = omega arith
keys_rise (r ∷ rs) zero (suc j) d h l m = let a : r.0 < (get_or rs j d).0 = above_at r.0 rs j d h.0 (omega arith) in omega arith
keys_rise (r ∷ rs) (suc i) zero d h l m = absurd (omega arith)
keys_rise (r ∷ rs) (suc i) (suc j) d h l m = keys_rise rs i j d h.1 (omega arith) (omega arith)

-- no record below the key comes after one that isn't
pub partitioned : (k : ℕ) (rs : Records) → Rises rs → IsPartitionedBy (λ (r : ℕ × Option ValueType). nat_lt r.0 k) rs
partitioned k rs h i j d l m e = let low = ltb-true (get_or rs j d).0 k e in let up = keys_rise rs i j d h l m in lt-ltb (get_or rs i d).0 k (omega arith)

pub point_is_place : (k : ℕ) (rs : Records) (i : ℕ) → i ≤ length rs → IsPartitionPoint (λ (r : ℕ × Option ValueType). nat_lt r.0 k ≡ true) (λ (r : ℕ × Option ValueType). nat_lt r.0 k ≡ false) rs i → i ≡ lows k rs
point_is_place k [] i l h = omega arith
point_is_place k (r ∷ rs) zero l h = ap (λ b. cond b (suc (lows k rs)) zero) (sym (h.1 0 r (omega arith) (omega arith)))
point_is_place k (r ∷ rs) (suc i) l h =
    ap suc (point_is_place k rs i (omega arith) (λ j d a b. h.0 (suc j) d (omega arith) (omega arith), λ j d a b. h.1 (suc j) d (omega arith) (omega arith)))
    ∙ ap (λ b. cond b (suc (lows k rs)) zero) (sym (h.0 0 r (omega arith) (omega arith)))
