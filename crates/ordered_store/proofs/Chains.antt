-- Reading blocks in a chain.
use Rattle.std.proofs.Common.{◌≡◌, ℕ, zero, suc, ◌<◌, ◌≤◌, Bool, true, false, cond, ◌==◌, nat_lt, nat_le, List, [], ◌∷◌, ◌++◌, length, get_or, take, drop, ◌-◌, length-drop, Some, refl, sym, ap, subst, ◌∙◌, arith}
use Rattle.std.proofs.lemmas.Bool.{ltb-true, ltb-false, leb-true, leb-false, lt-ltb, le-ltb, le-leb, ne_eqb}
use Rattle.std.proofs.lemmas.List.{append-nil}
use Rattle.std.proofs.Math.Seq.{take-length}
use Rattle.std.specs.List.Sorted.{IsPartitionedBy, IsPartitionPoint}
use Rattle.std.specs.Ordering.{nat_cmp}
use Rattle.std.specs.FinMap.{is_sorted}
use Rattle.std.specs.Map.{lookup}
use Rattle.clv_base.specs.declared.modes.Anchor.{Anchor}
use Rattle.clv_base.specs.declared.modes.Anchor.TheVariants.{Low, At}
use Rattle.clv_base.specs.Needs.{Records, found_at, found_by, anchor_from, lower_anchor}
use Rattle.ordered_store.proofs.Rising.{Above, Rises, rises_from, rises_to}
use Rattle.ordered_store.proofs.Finding.{none_above}
use Rattle.ordered_store.specs.declared.block.Block.{Block}
use Rattle.ordered_store.specs.Records.{Under, Begins}
use Rattle.ordered_store.specs.Blocks.{flat, Chain, Chained, reached, passed, slot_of, slot_below}

-- no key is below k
abbrev pub Least : ℕ → Records → Type 0
Least k [] = Unit {0}
Least k (r ∷ rs) = (k ≤ r.0) × Least k rs

pub least_less : (j k : ℕ) (rs : Records) → j ≤ k → Least k rs → Least j rs
least_less j k [] l h = tt
least_less j k (r ∷ rs) l h = (omega (arith, h.0), least_less j k rs l h.1)

pub above_least : (j k : ℕ) (rs : Records) → j < k → Least k rs → Above j rs
above_least j k [] l h = tt
above_least j k (r ∷ rs) l h = (omega (arith, h.0), above_least j k rs l h.1)

least_above : (j k : ℕ) (rs : Records) → j ≤ k → Above k rs → Least j rs
least_above j k [] l h = tt
least_above j k (r ∷ rs) l h = (omega (arith, h.0), least_above j k rs l h.1)

least_append : (k : ℕ) (xs ys : Records) → Least k xs → Least k ys → Least k (xs ++ ys)
least_append k [] ys h g = g
least_append k (x ∷ xs) ys h g = (h.0, least_append k xs ys h.1 g)

above_append : (k : ℕ) (xs ys : Records) → Above k xs → Above k ys → Above k (xs ++ ys)
above_append k [] ys h g = g
above_append k (x ∷ xs) ys h g = (h.0, above_append k xs ys h.1 g)

rises_append : (k : ℕ) (xs ys : Records) → Rises xs → Under k xs → Least k ys → Rises ys → Rises (xs ++ ys)
rises_append k [] ys h u l g = g
rises_append k (x ∷ xs) ys h u l g = (above_append x.0 xs ys h.0 (above_least x.0 k ys u.0 l), rises_append k xs ys h.1 u.1 l g)

-- records that begin with k and rise are all at least k
pub begun : (k : ℕ) (rs : Records) → Begins k rs → Rises rs → Least k rs
begun k [] b h = absurd b
begun k (r ∷ rs) b h = (omega (arith, b), least_above k r.0 rs (omega (arith, b)) h.0)

begun_under : (j k : ℕ) (rs : Records) → Begins j rs → Under k rs → j ≤ k
begun_under j k [] b h = absurd b
begun_under j k (r ∷ rs) b h = omega (arith, b, h.0)

pub sorted_of : (b : Block) (bs : List Block) → Chain b bs → is_sorted nat_cmp b.rows.items ≡ true
sorted_of b [] h = h
sorted_of b (c ∷ cs) h = h.0

-- all that comes from a fence on is at or above it
pub flat_least : (c : Block) (cs : List Block) → Begins c.fence c.rows.items → Chain c cs → Least c.fence (flat (c ∷ cs))
flat_least c [] b h = least_append c.fence c.rows.items [] (begun c.fence c.rows.items b (rises_from c.rows.items h)) tt
flat_least c (d ∷ ds) b h = least_append c.fence c.rows.items (flat (d ∷ ds)) (begun c.fence c.rows.items b (rises_from c.rows.items h.0))
    (least_less c.fence d.fence (flat (d ∷ ds)) (begun_under c.fence d.fence c.rows.items b h.1.0) (flat_least d ds h.1.1.0 h.1.1.1))

pub chain_rises : (b : Block) (bs : List Block) → Chain b bs → Rises (flat (b ∷ bs))
chain_rises b [] h = subst Rises (sym (append-nil b.rows.items)) (rises_from b.rows.items h)
chain_rises b (c ∷ cs) h = rises_append c.fence b.rows.items (flat (c ∷ cs)) (rises_from b.rows.items h.0) h.1.0 (flat_least c cs h.1.1.0 h.1.1.1) (chain_rises c cs h.1.1.1)

pub sorted_at : (b : Block) (bs : List Block) (i : ℕ) (d : Block) → Chain b bs → i < length (b ∷ bs) → is_sorted nat_cmp (get_or (b ∷ bs) i d).rows.items ≡ true
sorted_at b bs zero d h l = sorted_of b bs h
sorted_at b [] (suc i) d h l = absurd (omega arith)
sorted_at b (c ∷ cs) (suc i) d h l = sorted_at c cs i d h.1.1.1 (omega arith)

-- ---- what stands at a key

lookup_past : (k f : ℕ) (xs ys : Records) → Under f xs → f ≤ k → lookup (◌==◌ k) (xs ++ ys) ≡ lookup (◌==◌ k) ys
lookup_past k f [] ys u l = refl
lookup_past k f (x ∷ xs) ys u l = ap (λ b. cond b (Some x.1) (lookup (◌==◌ k) (xs ++ ys))) (ne_eqb k x.0 (λ e. absurd (omega (arith, u.0)))) ∙ lookup_past k f xs ys u.1 l

lookup_before : (k : ℕ) (xs ys : Records) → Above k ys → lookup (◌==◌ k) (xs ++ ys) ≡ lookup (◌==◌ k) xs
lookup_before k [] ys h = none_above k ys h
lookup_before k (x ∷ xs) ys h = ap (cond (k == x.0) (Some x.1)) (lookup_before k xs ys h)

pub lookup_in : (k : ℕ) (b : Block) (bs : List Block) (d : Block) → Chain b bs → lookup (◌==◌ k) (get_or (b ∷ bs) (reached k bs) d).rows.items ≡ lookup (◌==◌ k) (flat (b ∷ bs))
lookup_in k b [] d h = ap (lookup (◌==◌ k)) (sym (append-nil b.rows.items))
lookup_in k b (c ∷ cs) d h = at (nat_le c.fence k) refl (lookup_in k c cs d h.1.1.1)
  where
    at : (t : Bool) → nat_le c.fence k ≡ t → lookup (◌==◌ k) (get_or (c ∷ cs) (reached k cs) d).rows.items ≡ lookup (◌==◌ k) (flat (c ∷ cs))
        → lookup (◌==◌ k) (get_or (b ∷ c ∷ cs) (cond t (suc (reached k cs)) 0) d).rows.items ≡ lookup (◌==◌ k) (b.rows.items ++ flat (c ∷ cs))
    at true w more = more ∙ sym (lookup_past k c.fence b.rows.items (flat (c ∷ cs)) h.1.0 (leb-true c.fence k w))
    at false w more = sym (lookup_before k b.rows.items (flat (c ∷ cs)) (above_least k c.fence (flat (c ∷ cs)) (leb-false c.fence k w) (flat_least c cs h.1.1.0 h.1.1.1)))

-- ---- the greatest record below a key

anchor_append : (k : ℕ) (a : Anchor) (xs ys : Records) → anchor_from k a (xs ++ ys) ≡ anchor_from k (anchor_from k a xs) ys
anchor_append k a [] ys = refl
anchor_append k a (x ∷ xs) ys = anchor_append k (cond (nat_lt x.0 k) (At x.0) a) xs ys

none_below : (k : ℕ) (a : Anchor) (rs : Records) → Least k rs → anchor_from k a rs ≡ a
none_below k a [] h = refl
none_below k a (r ∷ rs) h = ap (λ b. anchor_from k (cond b (At r.0) a) rs) (le-ltb r.0 k h.0) ∙ none_below k a rs h.1

-- where the first record is below the key, nothing before it counts
begun_anew : (k f : ℕ) (a : Anchor) (rs ys : Records) → Begins f rs → f < k → anchor_from k a (rs ++ ys) ≡ anchor_from k Low (rs ++ ys)
begun_anew k f a [] ys b l = absurd b
begun_anew k f a (r ∷ rs) ys b l = let low : nat_lt r.0 k ≡ true = lt-ltb r.0 k (omega (arith, b)) in
    ap (λ t. anchor_from k (cond t (At r.0) a) (rs ++ ys)) low ∙ sym (ap (λ t. anchor_from k (cond t (At r.0) Low) (rs ++ ys)) low)

pub anchor_in : (k : ℕ) (b : Block) (bs : List Block) (d : Block) → Chain b bs → lower_anchor k (get_or (b ∷ bs) (passed k bs) d).rows.items ≡ lower_anchor k (flat (b ∷ bs))
anchor_in k b [] d h = ap (lower_anchor k) (sym (append-nil b.rows.items))
anchor_in k b (c ∷ cs) d h = at (nat_lt c.fence k) refl (anchor_in k c cs d h.1.1.1)
  where
    at : (t : Bool) → nat_lt c.fence k ≡ t → lower_anchor k (get_or (c ∷ cs) (passed k cs) d).rows.items ≡ lower_anchor k (flat (c ∷ cs))
        → lower_anchor k (get_or (b ∷ c ∷ cs) (cond t (suc (passed k cs)) 0) d).rows.items ≡ lower_anchor k (b.rows.items ++ flat (c ∷ cs))
    at true w more = more ∙ sym (anchor_append k Low b.rows.items (flat (c ∷ cs)) ∙ begun_anew k c.fence (lower_anchor k b.rows.items) c.rows.items (flat cs) h.1.1.0 (ltb-true c.fence k w))
    at false w more = sym (anchor_append k Low b.rows.items (flat (c ∷ cs)) ∙ none_below k (lower_anchor k b.rows.items) (flat (c ∷ cs))
        (least_less k c.fence (flat (c ∷ cs)) (ltb-false c.fence k w) (flat_least c cs h.1.1.0 h.1.1.1)))

-- ---- fences

fence_below : (c : Block) (cs : List Block) (i : ℕ) (d : Block) → Begins c.fence c.rows.items → Chain c cs → i < length (c ∷ cs) → c.fence ≤ (get_or (c ∷ cs) i d).fence
fence_below c cs zero d b h l = omega arith
fence_below c [] (suc i) d b h l = absurd (omega arith)
fence_below c (e ∷ es) (suc i) d b h l = let m = fence_below e es i d h.1.1.0 h.1.1.1 (omega arith) in let n = begun_under c.fence e.fence c.rows.items b h.1.0 in omega (arith, m, n)

pub fences_rise : (b : Block) (bs : List Block) (i j : ℕ) (d : Block) → Chain b bs → i ≤ j → j < length bs → (get_or bs i d).fence ≤ (get_or bs j d).fence
fences_rise b [] i j d h l m = absurd (omega arith)
fences_rise b (c ∷ cs) zero j d h l m = fence_below c cs j d h.1.1.0 h.1.1.1 m
fences_rise b (c ∷ cs) (suc i) zero d h l m = absurd (omega arith)
fences_rise b (c ∷ cs) (suc i) (suc j) d h l m = fences_rise c cs i j d h.1.1.1 (omega arith) (omega arith)

-- ---- the block of a key

pub point_reached : (k : ℕ) (bs : List Block) (i : ℕ) → i ≤ length bs → IsPartitionPoint (λ (b : Block). nat_le b.fence k ≡ true) (λ (b : Block). nat_le b.fence k ≡ false) bs i → i ≡ reached k bs
point_reached k [] i l h = omega arith
point_reached k (b ∷ bs) zero l h = ap (λ t. cond t (suc (reached k bs)) zero) (sym (h.1 0 b (omega arith) (omega arith)))
point_reached k (b ∷ bs) (suc i) l h =
    ap suc (point_reached k bs i (omega arith) (λ j d a e. h.0 (suc j) d (omega arith) (omega arith), λ j d a e. h.1 (suc j) d (omega arith) (omega arith)))
    ∙ ap (λ t. cond t (suc (reached k bs)) zero) (sym (h.0 0 b (omega arith) (omega arith)))

pub point_passed : (k : ℕ) (bs : List Block) (i : ℕ) → i ≤ length bs → IsPartitionPoint (λ (b : Block). nat_lt b.fence k ≡ true) (λ (b : Block). nat_lt b.fence k ≡ false) bs i → i ≡ passed k bs
point_passed k [] i l h = omega arith
point_passed k (b ∷ bs) zero l h = ap (λ t. cond t (suc (passed k bs)) zero) (sym (h.1 0 b (omega arith) (omega arith)))
point_passed k (b ∷ bs) (suc i) l h =
    ap suc (point_passed k bs i (omega arith) (λ j d a e. h.0 (suc j) d (omega arith) (omega arith), λ j d a e. h.1 (suc j) d (omega arith) (omega arith)))
    ∙ ap (λ t. cond t (suc (passed k bs)) zero) (sym (h.0 0 b (omega arith) (omega arith)))

-- the blocks after the first, as they are passed to a search
pub rest_is : (bs : List Block) → take (length bs - 1) (drop 1 bs) ≡ drop 1 bs
rest_is bs = ap (λ n. take n (drop 1 bs)) (sym (length-drop 1 bs)) ∙ take-length (drop 1 bs)

rest_rises : (bs : List Block) (i j : ℕ) (d : Block) → Chained bs → i ≤ j → j < length (drop 1 bs) → (get_or (drop 1 bs) i d).fence ≤ (get_or (drop 1 bs) j d).fence
rest_rises [] i j d h l m = absurd h
rest_rises (b ∷ bs) i j d h l m = fences_rise b bs i j d h.1 l m

pub parted_reached : (k : ℕ) (bs : List Block) → Chained bs → IsPartitionedBy (λ (b : Block). nat_le b.fence k) (take (length bs - 1) (drop 1 bs))
parted_reached k bs h = subst (IsPartitionedBy (λ (b : Block). nat_le b.fence k)) (sym (rest_is bs)) (λ i j d l m e.
    let up = rest_rises bs i j d h l m in let low = leb-true (get_or (drop 1 bs) j d).fence k e in le-leb (get_or (drop 1 bs) i d).fence k (omega (arith, up, low)))

pub parted_passed : (k : ℕ) (bs : List Block) → Chained bs → IsPartitionedBy (λ (b : Block). nat_lt b.fence k) (take (length bs - 1) (drop 1 bs))
parted_passed k bs h = subst (IsPartitionedBy (λ (b : Block). nat_lt b.fence k)) (sym (rest_is bs)) (λ i j d l m e.
    let up = rest_rises bs i j d h l m in let low = ltb-true (get_or (drop 1 bs) j d).fence k e in lt-ltb (get_or (drop 1 bs) i d).fence k (omega (arith, up, low)))

pub reached_slot : (k : ℕ) (bs : List Block) → reached k (take (length bs - 1) (drop 1 bs)) ≡ slot_of k bs
reached_slot k bs = ap (reached k) (rest_is bs) ∙ at bs
  where
    at : (bs : List Block) → reached k (drop 1 bs) ≡ slot_of k bs
    at [] = refl
    at (b ∷ bs) = refl

pub passed_slot : (k : ℕ) (bs : List Block) → passed k (take (length bs - 1) (drop 1 bs)) ≡ slot_below k bs
passed_slot k bs = ap (passed k) (rest_is bs) ∙ at bs
  where
    at : (bs : List Block) → passed k (drop 1 bs) ≡ slot_below k bs
    at [] = refl
    at (b ∷ bs) = refl

pub sorted_among : (bs : List Block) (i : ℕ) (d : Block) → Chained bs → i < length bs → is_sorted nat_cmp (get_or bs i d).rows.items ≡ true
sorted_among [] i d h l = absurd h
sorted_among (b ∷ bs) i d h l = sorted_at b bs i d h.1 l

pub lookup_among : (k : ℕ) (bs : List Block) (d : Block) → Chained bs → found_at k (get_or bs (slot_of k bs) d).rows.items ≡ found_at k (flat bs)
lookup_among k [] d h = absurd h
lookup_among k (b ∷ bs) d h = ap found_by (lookup_in k b bs d h.1)

pub anchor_among : (k : ℕ) (bs : List Block) (d : Block) → Chained bs → lower_anchor k (get_or bs (slot_below k bs) d).rows.items ≡ lower_anchor k (flat bs)
anchor_among k [] d h = absurd h
anchor_among k (b ∷ bs) d h = anchor_in k b bs d h.1

pub records_rise : (bs : List Block) → Chained bs → is_sorted nat_cmp (flat bs) ≡ true
records_rise [] h = absurd h
records_rise (b ∷ bs) h = rises_to (flat (b ∷ bs)) (chain_rises b bs h.1)
