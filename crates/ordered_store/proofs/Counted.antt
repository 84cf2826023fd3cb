-- What the search that counts finds.
use Rattle.std.proofs.Common.{◌≡◌, ℕ, zero, suc, ◌+◌, ◌-◌, ◌*◌, ◌^◌, ◌<◌, ◌≤◌, Bool, true, false, cond, ◌==◌, nat_lt, List, [], ◌∷◌, length, get_or, take, drop, Option, Some, None, refl, sym, ap, subst, ◌∙◌, arith}
use Rattle.std.proofs.lemmas.Bool.{le-leb, lt-leb, ltb-true, ltb-false, ne_eqb, eq-eqb}
use Rattle.std.specs.Map.{lookup}
use Rattle.std.specs.Ordering.{nat_cmp}
use Rattle.std.specs.FinMap.{is_sorted}
use Rattle.std.proofs.Math.Nat.{pow-le-pow_right}
use Rattle.clv_base.specs.declared.values.Value.{Value as ValueType}
use Rattle.clv_base.specs.declared.modes.Found.TheVariants.{Absent}
use Rattle.clv_base.specs.Needs.{Records, found_at, found_by}
use Rattle.ordered_store.proofs.Rising.{Rises, rises_from, above_at}
use Rattle.ordered_store.specs.declared.block.Block.{Block}
use Rattle.ordered_store.specs.Records.{Under, Begins}
use Rattle.ordered_store.specs.Blocks.{Chain, Chained, slot_of}
use Rattle.ordered_store.proofs.Chains.{point_reached, reached_slot, rest_is}

-- ---- the rows of one block

rows_rise : (rs : Records) → Rises rs → (i j : ℕ) (d : ℕ × Option ValueType) → i < j → j < length rs → (get_or rs i d).0 < (get_or rs j d).0
rows_rise [] h i j d l m = absurd (omega arith)
rows_rise (r ∷ rs) h zero zero d l m = absurd (omega arith)
rows_rise (r ∷ rs) h zero (suc j) d l m = above_at r.0 rs j d h.0 (omega arith)
rows_rise (r ∷ rs) h (suc i) zero d l m = absurd (omega arith)
rows_rise (r ∷ rs) h (suc i) (suc j) d l m = rows_rise rs h.1 i j d (omega arith) (omega arith)

pub sorted_rise : (rs : Records) → is_sorted nat_cmp rs ≡ true → (i j : ℕ) (d : ℕ × Option ValueType) → i < j → j < length rs → (get_or rs i d).0 < (get_or rs j d).0
sorted_rise rs h = rows_rise rs (rises_from rs h)

lookup_here : (k : ℕ) (rs : Records) (i : ℕ) (d : ℕ × Option ValueType) → Rises rs → i < length rs → (get_or rs i d).0 ≡ k → lookup (◌==◌ k) rs ≡ Some (get_or rs i d).1
lookup_here k [] i d h l e = absurd (omega arith)
lookup_here k (r ∷ rs) zero d h l e = ap (λ b. cond b (Some r.1) (lookup (◌==◌ k) rs)) (eq-eqb k r.0 (sym e))
lookup_here k (r ∷ rs) (suc i) d h l e =
    let up : r.0 < (get_or rs i d).0 = above_at r.0 rs i d h.0 (omega arith) in
    ap (λ b. cond b (Some r.1) (lookup (◌==◌ k) rs)) (ne_eqb k r.0 (λ q. absurd (omega (arith, up, e, q)))) ∙ lookup_here k rs i d h.1 (omega arith) e

lookup_none : (k : ℕ) (rs : Records) → ((j : ℕ) (d : ℕ × Option ValueType) → j < length rs → (get_or rs j d).0 ≡ k → ⊥) → lookup (◌==◌ k) rs ≡ None
lookup_none k [] n = refl
lookup_none k (r ∷ rs) n = ap (λ b. cond b (Some r.1) (lookup (◌==◌ k) rs)) (ne_eqb k r.0 (λ q. n 0 r (omega arith) (sym q))) ∙ lookup_none k rs (λ j d l e. n (suc j) d (omega arith) e)

pub found_row : (k : ℕ) (rs : Records) (i : ℕ) (d : ℕ × Option ValueType) → is_sorted nat_cmp rs ≡ true → i < length rs → (get_or rs i d).0 ≡ k → found_by (Some (get_or rs i d).1) ≡ found_at k rs
found_row k rs i d h l e = ap found_by (sym (lookup_here k rs i d (rises_from rs h) l e))

pub absent_row : (k : ℕ) (rs : Records) (i : ℕ) → ((j : ℕ) (d : ℕ × Option ValueType) → j < i → (get_or rs j d).0 < k) → ((j : ℕ) (d : ℕ × Option ValueType) → i ≤ j → j < length rs → k < (get_or rs j d).0) → Absent ≡ found_at k rs
absent_row k rs i below above = ap found_by (sym (lookup_none k rs (λ j d l e. by_test j d l e (nat_lt j i) refl)))
  where
    by_test : (j : ℕ) (d : ℕ × Option ValueType) → j < length rs → (get_or rs j d).0 ≡ k → (b : Bool) → nat_lt j i ≡ b → ⊥
    by_test j d l e true w = let q = below j d (ltb-true j i w) in omega (arith, q, e)
    by_test j d l e false w = let q = above j d (ltb-false j i w) l in omega (arith, q, e)

-- ---- fences

begun_strict : (j k : ℕ) (rs : Records) → Begins j rs → Under k rs → j < k
begun_strict j k [] b h = absurd b
begun_strict j k (r ∷ rs) b h = omega (arith, b, h.0)

fence_above : (c : Block) (cs : List Block) (i : ℕ) (d : Block) → Begins c.fence c.rows.items → Chain c cs → i < length cs → c.fence < (get_or cs i d).fence
fence_above c [] i d b h l = absurd (omega arith)
fence_above c (e ∷ es) zero d b h l = begun_strict c.fence e.fence c.rows.items b h.1.0
fence_above c (e ∷ es) (suc i) d b h l = let m = fence_above e es i d h.1.1.0 h.1.1.1 (omega arith) in let n = begun_strict c.fence e.fence c.rows.items b h.1.0 in omega (arith, m, n)

fences_climb : (b : Block) (bs : List Block) → Chain b bs → (i j : ℕ) (d : Block) → i < j → j < length bs → (get_or bs i d).fence < (get_or bs j d).fence
fences_climb b [] h i j d l m = absurd (omega arith)
fences_climb b (c ∷ cs) h zero zero d l m = absurd (omega arith)
fences_climb b (c ∷ cs) h zero (suc j) d l m = fence_above c cs j d h.1.1.0 h.1.1.1 (omega arith)
fences_climb b (c ∷ cs) h (suc i) zero d l m = absurd (omega arith)
fences_climb b (c ∷ cs) h (suc i) (suc j) d l m = fences_climb c cs h.1.1.1 i j d (omega arith) (omega arith)

pub rest_climbs : (bs : List Block) → Chained bs → (i j : ℕ) (d : Block) → i < j → j < length (take (length bs - 1) (drop 1 bs)) → (get_or (take (length bs - 1) (drop 1 bs)) i d).fence < (get_or (take (length bs - 1) (drop 1 bs)) j d).fence
rest_climbs bs h = subst (λ xs. (i j : ℕ) (d : Block) → i < j → j < length xs → (get_or xs i d).fence < (get_or xs j d).fence) (sym (rest_is bs)) (at bs h)
  where
    at : (bs : List Block) → Chained bs → (i j : ℕ) (d : Block) → i < j → j < length (drop 1 bs) → (get_or (drop 1 bs) i d).fence < (get_or (drop 1 bs) j d).fence
    at [] h = absurd h
    at (b ∷ bs) h = fences_climb b bs h.1

slot_by : (k : ℕ) (bs : List Block) (i : ℕ) → i ≤ length (take (length bs - 1) (drop 1 bs))
    → ((j : ℕ) (d : Block) → j < i → (get_or (take (length bs - 1) (drop 1 bs)) j d).fence ≤ k)
    → ((j : ℕ) (d : Block) → i ≤ j → j < length (take (length bs - 1) (drop 1 bs)) → k < (get_or (take (length bs - 1) (drop 1 bs)) j d).fence) → i ≡ slot_of k bs
slot_by k bs i l below above = point_reached k (take (length bs - 1) (drop 1 bs)) i l
    (λ j d a e. le-leb (get_or (take (length bs - 1) (drop 1 bs)) j d).fence k (below j d e), λ j d a e. lt-leb (get_or (take (length bs - 1) (drop 1 bs)) j d).fence k (above j d a e)) ∙ reached_slot k bs

pub slot_between : (k : ℕ) (bs : List Block) (i : ℕ) → i ≤ length (take (length bs - 1) (drop 1 bs))
    → ((j : ℕ) (d : Block) → j < i → (get_or (take (length bs - 1) (drop 1 bs)) j d).fence < k)
    → ((j : ℕ) (d : Block) → i ≤ j → j < length (take (length bs - 1) (drop 1 bs)) → k < (get_or (take (length bs - 1) (drop 1 bs)) j d).fence) → i ≡ slot_of k bs
slot_between k bs i l below above = slot_by k bs i l (λ j d e. let b = below j d e in omega (arith, b)) above

pub slot_at : (k : ℕ) (bs : List Block) (i n : ℕ) → Chained bs → i < length (take (length bs - 1) (drop 1 bs)) → ((d : Block) → (get_or (take (length bs - 1) (drop 1 bs)) i d).fence ≡ k) → n ≡ i + 1 → n ≡ slot_of k bs
slot_at k bs i n h l e q = slot_by k bs n (omega arith) below above
  where
    below : (j : ℕ) (d : Block) → j < n → (get_or (take (length bs - 1) (drop 1 bs)) j d).fence ≤ k
    below j d m = by_test (nat_lt j i) refl
      where
        by_test : (b : Bool) → nat_lt j i ≡ b → (get_or (take (length bs - 1) (drop 1 bs)) j d).fence ≤ k
        by_test true w = let r = rest_climbs bs h j i d (ltb-true j i w) l in let s = e d in omega (arith, r, s)
        by_test false w = let u = ltb-false j i w in let same : i ≡ j = omega (arith, u, m, q) in subst (λ x. (get_or (take (length bs - 1) (drop 1 bs)) x d).fence ≤ k) same (let s = e d in omega (arith, s))

    above : (j : ℕ) (d : Block) → n ≤ j → j < length (take (length bs - 1) (drop 1 bs)) → k < (get_or (take (length bs - 1) (drop 1 bs)) j d).fence
    above j d a m = let r = rest_climbs bs h i j d (omega (arith, a, q)) m in let s = e d in omega (arith, r, s)

-- ---- steps

-- 2 ^ 8 is more than 129
pub seven : (t : ℕ) → 2 ^ t ≤ 129 → t ≤ 7
seven t h = by_test (nat_lt 7 t) refl
  where
    by_test : (b : Bool) → nat_lt 7 t ≡ b → t ≤ 7
    by_test false w = ltb-false 7 t w
    by_test true w = let l : 8 ≤ t = (let q = ltb-true 7 t w in omega (arith, q)) in let p : 2 ^ 8 ≤ 2 ^ t = pow-le-pow_right {n = 2} (omega arith) l in absurd (omega (arith, p, h))

pub cost_of_both : (s t u b n : ℕ) → (s ≤ t) × (2 ^ (t - s) ≤ 2 * b + 1) → (t ≤ u) × (2 ^ (u - t) ≤ 2 * n + 1) → n ≤ 64 → (x : ℕ) × ((2 ^ x ≤ 2 * b + 1) × (u ≤ s + x + 7))
cost_of_both s t u b n h g l = let q : u - t ≤ 7 = seven (u - t) (let e = g.1 in omega (arith, e, l)) in (t - s, (h.1, omega (arith, h.0, g.0, q)))
