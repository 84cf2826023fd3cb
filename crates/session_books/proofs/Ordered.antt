-- Rows that rise by the places of their requests are determined by which they are.
use Rattle.std.proofs.Common.{◌≡◌, ◌⊎◌, inl, inr, ⊎_elim, refl, sym, ap, ap₂, subst, ◌∙◌, ℕ, zero, suc, ◌+◌, ◌<◌, Bool, true, false, cond, ◌==◌, List, [], ◌∷◌, ◌++◌, length, Option, Some, None, arith, get_or}
use Rattle.std.specs.List.{AllByRecursion, IsDistinct, Contains}
use Rattle.std.specs.List.Sorted.{IsPermutation}
use Rattle.std.specs.Ordering.{nat_cmp, ordering_then, is_eq, is_lt}
use Rattle.std.specs.declared.cmp.Ordering.{Ordering}
use Rattle.std.specs.declared.cmp.Ordering.TheVariants.{Less, Equal, Greater}
use Rattle.std.proofs.lemmas.Bool.{both_ways, cases_lt, lt-ltb, false_from_ne_true}
use Rattle.std.proofs.lemmas.List.Sorted.{Contains-permutation, IsPermutation-sym}
use Rattle.std.proofs.lemmas.Map.Keys.{IsDistinct-cons, IsDistinct-head, IsDistinct-tail, IsDistinct-IsPermutation}
use Rattle.clv_base.specs.declared.names.TxId.{TxId}
use Rattle.clv_base.specs.Journals.{History}
use Rattle.clv_base.specs.History.{acknowledged_in, request_of}
use Rattle.clv_base.proofs.SameNames.{nat_cmp_true, nat_cmp_self, then_eq, then_both}
use Rattle.law_base.proofs.Lists.{all_mono}
use Rattle.history_cases.proofs.Merging.{Placed, Before, InOrder, Among, among_all}
use Rattle.session_books.specs.declared.books.Row.{Row}
use Rattle.session_books.specs.Books.{row_of, row_at, rows_in}
use Rattle.session_books.specs.Laws.{point_cmp, AreByPlace}

-- ---- places

abbrev pub Below : Row → Row → Type 0
Below a b = ((a.point).stamp < (b.point).stamp) ⊎ (((a.point).stamp ≡ (b.point).stamp) × ((a.point).shard < (b.point).shard))

abbrev is_same_place : Row → Row → Bool
is_same_place a b = is_eq (point_cmp a.point b.point)

below_then : (a b c : Row) → Below a b → Below b c → Below a c
below_then a b c (inl l) (inl m) = inl (omega arith)
below_then a b c (inl l) (inr m) = inl (omega (arith, m.0))
below_then a b c (inr l) (inl m) = inl (omega (arith, l.0))
below_then a b c (inr l) (inr m) = inr (l.0 ∙ m.0, omega (arith, l.1, m.1))

not_both : (a b : Row) → Below a b → Below b a → ⊥
not_both a b (inl l) (inl m) = omega arith
not_both a b (inl l) (inr m) = omega (arith, m.0)
not_both a b (inr l) (inl m) = omega (arith, l.0)
not_both a b (inr l) (inr m) = omega (arith, l.1, m.1)

same_place : (a b : Row) → is_same_place a b ≡ true → ((a.point).stamp ≡ (b.point).stamp) × ((a.point).shard ≡ (b.point).shard)
same_place a b e = let p = then_eq (nat_cmp (a.point).stamp (b.point).stamp) _ e in (nat_cmp_true _ _ p.0, nat_cmp_true _ _ p.1)

cmp_from : (m n : ℕ) → m ≡ n → is_eq (nat_cmp m n) ≡ true
cmp_from m n e = subst (λ k. is_eq (nat_cmp m k) ≡ true) e (nat_cmp_self m)

place_from : (a b : Row) → (a.point).stamp ≡ (b.point).stamp → (a.point).shard ≡ (b.point).shard → is_same_place a b ≡ true
place_from a b e f = then_both (nat_cmp (a.point).stamp (b.point).stamp) _ (cmp_from _ _ e) (cmp_from _ _ f)

below_apart : (a b : Row) → Below a b → is_same_place a b ≡ false
below_apart a b (inl l) = false_from_ne_true _ (λ e. let p = same_place a b e in omega (arith, l, p.0))
below_apart a b (inr l) = false_from_ne_true _ (λ e. let p = same_place a b e in omega (arith, l.1, p.1))

places_flip : (a b : Row) → is_same_place a b ≡ is_same_place b a
places_flip a b = same_truth (is_same_place a b) (is_same_place b a) (turn a b) (turn b a)
  where
    same_truth : (p q : Bool) → (p ≡ true → q ≡ true) → (q ≡ true → p ≡ true) → p ≡ q
    same_truth true q f g = sym (f refl)
    same_truth false true f g = g refl
    same_truth false false f g = refl

    turn : (c d : Row) → is_same_place c d ≡ true → is_same_place d c ≡ true
    turn c d e = let p = same_place c d e in place_from d c (sym p.0) (sym p.1)

less_first : (m n : ℕ) (o : Ordering) → m < n → is_lt (ordering_then (nat_cmp m n) o) ≡ true
less_first m n o l = ap (λ c. is_lt (ordering_then (cond c Less (cond (m == n) Equal Greater)) o)) (lt-ltb m n l)

less_second : (m n : ℕ) (o : Ordering) → m ≡ n → is_lt o ≡ true → is_lt (ordering_then (nat_cmp m n) o) ≡ true
less_second m n o e l = at (nat_cmp m n) (cmp_from m n e)
  where
    at : (p : Ordering) → is_eq p ≡ true → is_lt (ordering_then p o) ≡ true
    at Less f = refl
    at Equal f = l
    at Greater f = absurd (both_ways false refl f)

less_is : (m n : ℕ) → m < n → is_lt (nat_cmp m n) ≡ true
less_is m n l = ap (λ c. is_lt (cond c Less (cond (m == n) Equal Greater))) (lt-ltb m n l)

-- what isn't below, nor at the same place, is above
not_above : (a b : Row) → is_lt (point_cmp b.point a.point) ≡ false → is_same_place a b ≡ false → Below a b
not_above a b n s =
    ⊎_elim
    (λ l. inl l)
    (λ g. ⊎_elim
    (λ m. absurd (both_ways _ n (less_first (b.point).stamp (a.point).stamp _ m)))
    (λ m. inr (omega arith, second (omega arith)))
    (cases_lt (b.point).stamp (a.point).stamp))
    (cases_lt (a.point).stamp (b.point).stamp)
  where
    second : (a.point).stamp ≡ (b.point).stamp → (a.point).shard < (b.point).shard
    second e =
        ⊎_elim
        (λ l. l)
        (λ g. ⊎_elim
        (λ m. absurd (both_ways _ n (less_second (b.point).stamp (a.point).stamp _ (sym e) (less_is _ _ m))))
        (λ m. absurd (both_ways _ s (place_from a b e (omega arith))))
        (cases_lt (b.point).shard (a.point).shard))
        (cases_lt (a.point).shard (b.point).shard)

-- ---- rows that rise

abbrev pub Rises : List Row → Type 0
Rises [] = Unit {0}
Rises (r ∷ rs) = AllByRecursion (Below r) rs × Rises rs

all_above : (a b : Row) (rs : List Row) → Below a b → AllByRecursion (Below b) rs → AllByRecursion (Below a) rs
all_above a b rs l s = all_mono (Below b) (Below a) (λ r m. below_then a b r l m) rs s

sorted_later : (r : Row) (rs : List Row) → AreByPlace (r ∷ rs) → AreByPlace rs
sorted_later r rs s k d l g =
    subst (λ n. is_lt (point_cmp (get_or (r ∷ rs) n d).point (get_or rs k d).point) ≡ false) {x = suc k + 1} {y = suc (k + 1)} (omega arith) (s (suc k) d (omega arith) (omega arith))

rises : (rs : List Row) → AreByPlace rs → IsDistinct is_same_place rs → Rises rs
rises [] s d = tt
rises (r ∷ []) s d = (tt, tt)
rises (r ∷ q ∷ rs) s d =
    let rest = rises (q ∷ rs) (sorted_later r (q ∷ rs) s) (IsDistinct-tail is_same_place r (q ∷ rs) d) in
    let b = not_above r q (s 0 r (omega arith) (omega arith)) (IsDistinct-head is_same_place r (q ∷ rs) d).0 in
    ((b, all_above r q rs b rest.0), rest)

distinct : (rs : List Row) → Rises rs → IsDistinct is_same_place rs
unfolding IsDistinct
distinct [] s = tt
distinct (r ∷ rs) s = IsDistinct-cons is_same_place r rs (all_mono (Below r) (λ q. is_same_place r q ≡ false) (λ q l. below_apart r q l) rs s.0) (distinct rs s.1)

-- ---- the same rows in the same order

among_contains : {A : Type 0} (x : A) (xs : List A) → Among x xs → Contains xs x
among_contains x [] m = elim m [ ]
among_contains x (y ∷ ys) (inl e) = (0, omega arith, e)
among_contains x (y ∷ ys) (inr m) = let c = among_contains x ys m in (suc c.0, omega (arith, c.1), c.2)

contains_at : {A : Type 0} (x : A) (xs : List A) (k : ℕ) → k < length xs → get_or xs k x ≡ x → Among x xs
contains_at x [] k l e = absurd (omega arith)
contains_at x (y ∷ ys) zero l e = inl e
contains_at x (y ∷ ys) (suc k) l e = inr (contains_at x ys k (omega arith) e)

among_permutation : {A : Type 0} (x : A) (xs ys : List A) → IsPermutation xs ys → Among x xs → Among x ys
among_permutation x xs ys p m = let c = Contains-permutation xs ys x p (among_contains x xs m) in contains_at x ys c.0 c.1 c.2

heads : (x y : Row) (xs ys : List Row) → AllByRecursion (Below x) xs → AllByRecursion (Below y) ys → Among x (y ∷ ys) → Among y (x ∷ xs) → x ≡ y
heads x y xs ys a b (inl e) n = sym e
heads x y xs ys a b (inr m) (inl e) = e
heads x y xs ys a b (inr m) (inr n) = absurd (not_both x y (among_all (Below x) y xs a n) (among_all (Below y) x ys b m))

behind : (x y : Row) (xs ys : List Row) → x ≡ y → AllByRecursion (Below x) xs → ((r : Row) → Among r (x ∷ xs) → Among r (y ∷ ys)) → (r : Row) → Among r xs → Among r ys
behind x y xs ys e a f r m = at (f r (inr m))
  where
    at : Among r (y ∷ ys) → Among r ys
    at (inl s) = let b = among_all (Below x) r xs a m in let c = subst (Below x) (sym (e ∙ s)) b in absurd (not_both x x c c)
    at (inr n) = n

same_rows : (xs ys : List Row) → Rises xs → Rises ys → ((r : Row) → Among r xs → Among r ys) → ((r : Row) → Among r ys → Among r xs) → xs ≡ ys
same_rows [] [] a b f g = refl
same_rows [] (y ∷ ys) a b f g = elim (g y (inl refl)) [ ]
same_rows (x ∷ xs) [] a b f g = elim (f x (inl refl)) [ ]
same_rows (x ∷ xs) (y ∷ ys) a b f g =
    let e = heads x y xs ys a.0 b.0 (f x (inl refl)) (g y (inl refl)) in
    ap₂ (λ (r : Row) (rs : List Row). r ∷ rs) e (same_rows xs ys a.1 b.1 (behind x y xs ys e a.0 f) (behind y x ys xs (sym e) b.0 g))

-- rows that rise, in another order, and sorted
pub sorted_back : (xs ys : List Row) → Rises xs → IsPermutation xs ys → AreByPlace ys → ys ≡ xs
sorted_back xs ys a p s =
    same_rows ys xs (rises ys s (IsDistinct-IsPermutation is_same_place places_flip xs ys p (distinct xs a))) a
    (λ r m. among_permutation r ys xs (IsPermutation-sym xs ys p) m)
    (λ r m. among_permutation r xs ys p m)

-- ---- the rows of a history rise

all_in_row : (P : Row → Type 0) (h : History) (e : Placed) (o : Option TxId) → ((t : TxId) → P (row_of h e t)) → AllByRecursion P (row_at h e o)
all_in_row P h e None k = tt
all_in_row P h e (Some t) k = at (acknowledged_in h t)
  where
    at : (b : Bool) → AllByRecursion P (cond b (row_of h e t ∷ []) [])
    at true = (k t, tt)
    at false = tt

all_joined : (P : Row → Type 0) (rs qs : List Row) → AllByRecursion P rs → AllByRecursion P qs → AllByRecursion P (rs ++ qs)
all_joined P [] qs a b = b
all_joined P (r ∷ rs) qs a b = (a.0, all_joined P rs qs a.1 b)

all_in_rows : (P : Row → Type 0) (h es : History) → AllByRecursion (λ e. (t : TxId) → P (row_of h e t)) es → AllByRecursion P (rows_in h es)
all_in_rows P h [] a = tt
all_in_rows P h (e ∷ es) a = all_joined P (row_at h e (request_of (e.1).event (e.1).outcome)) (rows_in h es) (all_in_row P h e (request_of (e.1).event (e.1).outcome) a.0) (all_in_rows P h es a.1)

pub rows_rise : (h es : History) → InOrder es → Rises (rows_in h es)
rows_rise h [] o = tt
rows_rise h (e ∷ es) o = at (request_of (e.1).event (e.1).outcome) (rows_rise h es o.1)
  where
    front : (t : TxId) → AllByRecursion (Below (row_of h e t)) (rows_in h es)
    front t = all_in_rows (Below (row_of h e t)) h es (all_mono (Before e) (λ f. (u : TxId) → Below (row_of h e t) (row_of h f u)) (λ f b u. b) es o.0)

    at : (q : Option TxId) → Rises (rows_in h es) → Rises (row_at h e q ++ rows_in h es)
    at None k = k
    at (Some t) k = here (acknowledged_in h t)
      where
        here : (b : Bool) → Rises (cond b (row_of h e t ∷ []) [] ++ rows_in h es)
        here true = (front t, k)
        here false = k
