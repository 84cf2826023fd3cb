-- Rows in another order: that of the places of their requests.
use Rattle.std.proofs.Common.{◌≡◌, ◌⊎◌, inl, inr, refl, ap, subst, zero, suc, ◌+◌, ◌<◌, Bool, true, false, cond, List, [], ◌∷◌, get_or, arith}
use Rattle.std.specs.Prelude.{⊤}
use Rattle.std.specs.List.{AllByRecursion}
use Rattle.std.specs.List.Sorted.{IsPermutation}
use Rattle.std.specs.Ordering.{nat_cmp, ordering_then, is_eq, is_lt}
use Rattle.std.specs.declared.cmp.Ordering.{Ordering}
use Rattle.std.specs.declared.cmp.Ordering.TheVariants.{Less, Equal, Greater}
use Rattle.std.proofs.lemmas.Bool.{both_ways, false_from_ne_true}
use Rattle.std.proofs.lemmas.List.Sorted.{IsPermutation-refl, IsPermutation-trans, IsPermutation-cons, IsPermutation-append_comm, IsPermutation-append_left}
use Rattle.clv_base.specs.declared.names.Point.{Point}
use Rattle.clv_base.proofs.SameNames.{nat_cmp_true}
use Rattle.law_base.proofs.Numbers.{lt_from}
use Rattle.session_books.specs.declared.books.Row.{Row}
use Rattle.session_books.specs.Laws.{point_cmp, AreByPlace}

abbrev is_before : Row → Row → Bool
is_before a b = is_lt (point_cmp a.point b.point)

before_is : (a b : Point) → is_lt (point_cmp a b) ≡ true → (a.stamp < b.stamp) ⊎ ((a.stamp ≡ b.stamp) × (a.shard < b.shard))
before_is a b e = at (nat_cmp a.stamp b.stamp) refl e
  where
    at : (o : Ordering) → nat_cmp a.stamp b.stamp ≡ o → is_lt (ordering_then o (nat_cmp a.shard b.shard)) ≡ true → (a.stamp < b.stamp) ⊎ ((a.stamp ≡ b.stamp) × (a.shard < b.shard))
    at Less f g = inl (lt_from a.stamp b.stamp (ap is_lt f))
    at Equal f g = inr (nat_cmp_true a.stamp b.stamp (ap is_eq f), lt_from a.shard b.shard g)
    at Greater f g = absurd (both_ways false refl g)

not_back : (a b : Row) → is_before a b ≡ true → is_before b a ≡ false
not_back a b e = false_from_ne_true (is_before b a) (λ f. at (before_is a.point b.point e) (before_is b.point a.point f))
  where
    at : ((a.point).stamp < (b.point).stamp) ⊎ (((a.point).stamp ≡ (b.point).stamp) × ((a.point).shard < (b.point).shard))
        → ((b.point).stamp < (a.point).stamp) ⊎ (((b.point).stamp ≡ (a.point).stamp) × ((b.point).shard < (a.point).shard)) → ⊥
    at (inl l) (inl m) = omega arith
    at (inl l) (inr m) = omega (arith, m.0)
    at (inr l) (inl m) = omega (arith, l.0)
    at (inr l) (inr m) = omega (arith, l.1, m.1)

-- ---- lists in order

abbrev FirstIsNotBefore : Row → List Row → Type 0
FirstIsNotBefore y [] = ⊤
FirstIsNotBefore y (z ∷ zs) = is_before z y ≡ false

abbrev AreInOrder : List Row → Type 0
AreInOrder [] = ⊤
AreInOrder (y ∷ ys) = FirstIsNotBefore y ys × AreInOrder ys

by_place : (ys : List Row) → AreInOrder ys → AreByPlace ys
by_place [] o k d l g = absurd (omega arith)
by_place (y ∷ []) o k d l g = absurd (omega arith)
by_place (y ∷ z ∷ zs) o zero d l g = o.0
by_place (y ∷ z ∷ zs) o (suc k) d l g =
    subst (λ n. is_lt (point_cmp (get_or (y ∷ z ∷ zs) n d).point (get_or (z ∷ zs) k d).point) ≡ false) {x = suc (k + 1)} {y = suc k + 1} (omega arith) (by_place (z ∷ zs) o.1 k d (omega arith) (omega arith))

-- ---- one row more

-- these are those with one more, in order if they were
record HasPut (x : Row) (ys zs : List Row) : Type 1 where
  order : AreInOrder ys → AreInOrder zs
  first : (y : Row) → is_before x y ≡ false → FirstIsNotBefore y ys → FirstIsNotBefore y zs
  same : IsPermutation (x ∷ ys) zs
  each : (P : Row → Type 0) → P x → AllByRecursion P ys → AllByRecursion P zs

flipped : (x y : Row) (ys zs : List Row) → IsPermutation (x ∷ ys) zs → IsPermutation (x ∷ y ∷ ys) (y ∷ zs)
flipped x y ys zs p = IsPermutation-trans (x ∷ y ∷ ys) (y ∷ x ∷ ys) (y ∷ zs) (IsPermutation-append_left ys (x ∷ y ∷ []) (y ∷ x ∷ []) (IsPermutation-append_comm (x ∷ []) (y ∷ []))) (IsPermutation-cons y (x ∷ ys) zs p)

put : Row → List Row → List Row
put x [] = x ∷ []
put x (y ∷ ys) = cond (is_before x y) (x ∷ y ∷ ys) (y ∷ put x ys)

has_put : (x : Row) (ys : List Row) → HasPut x ys (put x ys)
unfolding put
has_put x [] = record { order = λ o. (tt, tt); first = λ y e f. e; same = IsPermutation-refl (x ∷ []); each = λ P here rest. (here, tt) }
has_put x (y ∷ ys) = at (is_before x y) refl (has_put x ys)
  where
    at : (b : Bool) → is_before x y ≡ b → HasPut x ys (put x ys) → HasPut x (y ∷ ys) (cond b (x ∷ y ∷ ys) (y ∷ put x ys))
    at true e r = record { order = λ o. (not_back x y e, o); first = λ z f g. f; same = IsPermutation-refl (x ∷ y ∷ ys); each = λ P here rest. (here, rest) }
    at false e r = record {
      order = λ o. (r.first y e o.0, r.order o.1);
      first = λ z f g. g;
      same = flipped x y ys (put x ys) r.same;
      each = λ P here rest. (rest.0, r.each P here rest.1);
    }

-- ---- all of them

pub record IsSorted (xs ys : List Row) : Type 1 where
  pub by_place : AreByPlace ys
  pub same : IsPermutation xs ys
  pub each : (P : Row → Type 0) → AllByRecursion P xs → AllByRecursion P ys

record Sorts (xs ys : List Row) : Type 1 where
  order : AreInOrder ys
  same : IsPermutation xs ys
  each : (P : Row → Type 0) → AllByRecursion P xs → AllByRecursion P ys

pub in_place_order : List Row → List Row
in_place_order [] = []
in_place_order (x ∷ xs) = put x (in_place_order xs)

sorts : (xs : List Row) → Sorts xs (in_place_order xs)
unfolding in_place_order
sorts [] = record { order = tt; same = IsPermutation-refl []; each = λ P all. all }
sorts (x ∷ xs) =
    let r = sorts xs in
    let p = has_put x (in_place_order xs) in
    record {
      order = p.order r.order;
      same = IsPermutation-trans (x ∷ xs) (x ∷ in_place_order xs) (put x (in_place_order xs)) (IsPermutation-cons x xs (in_place_order xs) r.same) p.same;
      each = λ P all. p.each P all.0 (r.each P all.1);
    }

pub rows_are_sorted : (xs : List Row) → IsSorted xs (in_place_order xs)
rows_are_sorted xs = let s = sorts xs in record { by_place = by_place (in_place_order xs) s.order; same = s.same; each = s.each }
