-- Lists, and what holds of each element, or of each and each later one.
use Rattle.std.proofs.Common.{◌≡◌, Bool, true, List, [], ◌∷◌, ◌++◌, ℕ, zero, suc, false, cond, refl, sym, ap, ◌∙◌, ◌<◌, length, arith, get_or, Option, Some, None, ◌≤◌, nat_le, ⊎_elim, subst, ◌==◌, eqb-true, ◌≢◌, slice_index, ◌⊎◌, inl, inr, map, set, ◌+◌, drop, ◌-◌, slice_range}
use Rattle.std.specs.List.{AllByRecursion, filter, list_all, list_any}
use Rattle.std.specs.Prelude.{take, is_none, slice_get}
use Rattle.std.proofs.lemmas.Bool.{cond_both, cond-true, cond-false, both_ways, and_parts, leb-true, or_cases, eq-eqb}
use Rattle.law_base.specs.Items.{AllLater}
use Rattle.clv_base.specs.Shards.{shard_count, are_splits, not_rising, shard_of}
use Rattle.clv_base.specs.declared.causes.Vote.{Vote}
use Rattle.clv_base.specs.Orders.{nat_in, nat_insert}
use Rattle.clv_base.specs.Coordinator.{vote_from, is_good}
use Rattle.std.proofs.lemmas.List.{get_or_append_left, get_or-take, get_or-drop}
use Rattle.std.specs.declared.cmp.Ordering.{Ordering}
use Rattle.std.specs.declared.cmp.Ordering.TheVariants.{Less, Equal, Greater}
use Rattle.std.specs.Ordering.{nat_cmp, match_ordering}
use Rattle.clv_base.proofs.SameNames.{or_left, or_right}
use Rattle.clv_base.specs.Sessions.{is_lowest}
use Rattle.std.proofs.lemmas.List.Sums.{count_by-le-length}
use Rattle.std.proofs.Math.Seq.{take-length}

pub all_mono : {I : Type 0} (P Q : I → Type 0) → ((x : I) → P x → Q x) → (xs : List I) → AllByRecursion P xs → AllByRecursion Q xs
all_mono P Q h [] a = tt
all_mono P Q h (x ∷ xs) a = (h x a.0, all_mono P Q h xs a.1)

pub all_both : {I : Type 0} (P Q : I → Type 0) (xs : List I) → AllByRecursion P xs → AllByRecursion Q xs → AllByRecursion (λ x. P x × Q x) xs
all_both P Q [] a b = tt
all_both P Q (x ∷ xs) a b = ((a.0, b.0), all_both P Q xs a.1 b.1)

pub all_push : {I : Type 0} (P : I → Type 0) (xs : List I) (x : I) → AllByRecursion P xs → P x → AllByRecursion P (xs ++ x ∷ [])
all_push P [] x all p = (p, tt)
all_push P (y ∷ ys) x all p = (all.0, all_push P ys x all.1 p)

pub all_append : {I : Type 0} (P : I → Type 0) (xs ys : List I) → AllByRecursion P xs → AllByRecursion P ys → AllByRecursion P (xs ++ ys)
all_append P [] ys a b = b
all_append P (x ∷ xs) ys a b = (a.0, all_append P xs ys a.1 b)

pub all_filter : {I : Type 0} (P : I → Type 0) (p : I → Bool) (xs : List I) → AllByRecursion P xs → AllByRecursion (λ x. P x × (p x ≡ true)) (filter p xs)
all_filter P p [] all = tt
all_filter P p (x ∷ xs) all =
    cond_both (p x) (x ∷ filter p xs) (filter p xs) (AllByRecursion (λ x. P x × (p x ≡ true)))
    (λ e. ((all.0, e), all_filter P p xs all.1)) (λ e. all_filter P p xs all.1)

pub all_kept : {I : Type 0} (P : I → Type 0) (p : I → Bool) (xs : List I) → AllByRecursion P xs → AllByRecursion P (filter p xs)
all_kept P p xs all = all_mono _ P (λ x h. h.0) (filter p xs) (all_filter P p xs all)

pub later_mono : {I : Type 0} (R Q : I → I → Type 0) → ((x y : I) → R x y → Q x y) → (xs : List I) → AllLater R xs → AllLater Q xs
later_mono R Q h [] a = tt
later_mono R Q h (x ∷ xs) a = (all_mono (R x) (Q x) (h x) xs a.0, later_mono R Q h xs a.1)

pub later_push : {I : Type 0} (R : I → I → Type 0) (xs : List I) (x : I) → AllLater R xs → AllByRecursion (λ y. R y x) xs → AllLater R (xs ++ x ∷ [])
later_push R [] x later all = (tt, tt)
later_push R (y ∷ ys) x later all = (all_push (R y) ys x later.0 all.0, later_push R ys x later.1 all.1)

pub later_filter : {I : Type 0} (R : I → I → Type 0) (p : I → Bool) (xs : List I) → AllLater R xs → AllLater (λ x y. R x y × (p x ≡ true) × (p y ≡ true)) (filter p xs)
later_filter R p [] later = tt
later_filter R p (x ∷ xs) later =
    cond_both (p x) (x ∷ filter p xs) (filter p xs) (AllLater (λ x y. R x y × (p x ≡ true) × (p y ≡ true)))
    (λ e. (all_mono _ _ (λ y h. (h.0, e, h.1)) (filter p xs) (all_filter (R x) p xs later.0), later_filter R p xs later.1))
    (λ e. later_filter R p xs later.1)

-- what holds of every element holds of each of a list
pub all_of : {A : Type 0} (P : A → Type 0) → ((x : A) → P x) → (xs : List A) → AllByRecursion P xs
all_of P k [] = tt
all_of P k (x ∷ xs) = (k x, all_of P k xs)

pub all_taken : {X : Type 0} (P : X → Type 0) (n : ℕ) (xs : List X) → AllByRecursion P xs → AllByRecursion P (take n xs)
all_taken P zero xs a = tt
all_taken P (suc n) [] a = tt
all_taken P (suc n) (x ∷ xs) a = (a.0, all_taken P n xs a.1)

pub filters_swap : {I : Type 0} (f h : I → Bool) (xs : List I) → filter f (filter h xs) ≡ filter h (filter f xs)
filters_swap f h [] = refl
filters_swap f h (x ∷ xs) = at (f x) (h x) refl refl (filters_swap f h xs)
  where
    at : (b c : Bool) → f x ≡ b → h x ≡ c → filter f (filter h xs) ≡ filter h (filter f xs) → filter f (cond c (x ∷ filter h xs) (filter h xs)) ≡ filter h (cond b (x ∷ filter f xs) (filter f xs))
    at true true e d ih = cond-true (f x) _ _ e ∙ ap (λ l. x ∷ l) ih ∙ sym (cond-true (h x) _ _ d)
    at true false e d ih = ih ∙ sym (cond-false (h x) _ _ d)
    at false true e d ih = cond-false (f x) _ _ e ∙ ih
    at false false e d ih = ih

-- where each that one filter keeps passes a test, what passes the filter passes the test
pub filter_passes : {I : Type 0} (f g : I → Bool) (xs : List I) → list_all f (filter g xs) ≡ true → AllByRecursion (λ x. g x ≡ true → f x ≡ true) xs
filter_passes f g [] e = tt
filter_passes f g (x ∷ xs) e = at (g x) refl e (filter_passes f g xs)
  where
    at : (b : Bool) → g x ≡ b → list_all f (cond b (x ∷ filter g xs) (filter g xs)) ≡ true → (list_all f (filter g xs) ≡ true → AllByRecursion (λ y. g y ≡ true → f y ≡ true) xs)
        → AllByRecursion (λ y. g y ≡ true → f y ≡ true) (x ∷ xs)
    at true q a k = let p = and_parts (f x) (list_all f (filter g xs)) a in ((λ z. p.0), k p.1)
    at false q a k = ((λ z. absurd (both_ways (g x) q z)), k a)

pub elem_at : {X : Type 0} (xs : List X) (n : ℕ) → n < length xs → X
elem_at [] n l = absurd (omega arith)
elem_at (x ∷ xs) n l = x

pub some_inside : {A : Type 0} (xs : List (Option A)) (n : ℕ) (p : A) → ((d : Option A) → get_or xs n d ≡ Some p) → n < length xs
some_inside [] n p had = absurd (let h : None ≡ Some p = had None in cc)
some_inside (x ∷ xs) zero p had = omega arith
some_inside (x ∷ xs) (suc n) p had = let l = some_inside xs n p had in omega arith

pub few_shards : (splits : List ℕ) → are_splits splits ≡ true → shard_count splits ≤ 16
few_shards splits h = let p = and_parts (nat_le (length splits) 15) (is_none (not_rising splits)) h in let l : length splits ≤ 15 = leb-true (length splits) 15 p.0 in omega arith

pub some_at : {X : Type 0} (xs : List X) (n : ℕ) (d : X) → n < length xs → slice_get xs n ≡ Some (get_or xs n d)
some_at [] n d l = absurd (omega arith)
some_at (x ∷ xs) zero d l = refl
some_at (x ∷ xs) (suc n) d l = some_at xs n d (omega arith)

pub first_elem : {A : Type 0} (xs : List A) → 0 < length xs → A
first_elem [] l = absurd (omega arith)
first_elem (x ∷ xs) l = x

pub good_at : (vs : List (ℕ × Vote)) (ps : List ℕ) (p : ℕ) → list_all (λ m. is_good (vote_from m vs)) ps ≡ true → nat_in p ps ≡ true → is_good (vote_from p vs) ≡ true
good_at vs [] p g i = absurd (both_ways false refl i)
good_at vs (m ∷ ms) p g i =
    let a = and_parts (is_good (vote_from m vs)) (list_all (λ m. is_good (vote_from m vs)) ms) g in
    ⊎_elim (λ e. subst (λ z. is_good (vote_from z vs) ≡ true) (sym (eqb-true p m e)) a.0) (λ j. good_at vs ms p a.1 j) (or_cases (p == m) (nat_in p ms) i)

pub get_or_taken : {A : Type 0} (ys zs : List A) (n k : ℕ) (d : A) → k < n → k < length ys → get_or (take n (ys ++ zs)) k d ≡ get_or ys k d
get_or_taken ys zs n k d low within = get_or-take n (ys ++ zs) k d low ∙ get_or_append_left ys zs d k within

pub unequal : (a b : List ℕ) → slice_index a 0 ≢ slice_index b 0 → a ≡ b → ⊥
unequal a b differ e = differ (ap (λ (w : List ℕ). slice_index w 0) e)

pub insert_in : (n k : ℕ) (ns : List ℕ) → nat_in k (nat_insert n ns) ≡ true → (k ≡ n) ⊎ (nat_in k ns ≡ true)
insert_in n k [] i = ⊎_elim (λ s. inl (eqb-true k n s)) (λ h. inr h) (or_cases (k == n) false i)
insert_in n k (m ∷ ms) i = at (nat_cmp n m) i (insert_in n k ms)
  where
    at : (o : Ordering) → nat_in k (match_ordering o (n ∷ m ∷ ms) (m ∷ ms) (m ∷ nat_insert n ms)) ≡ true → (nat_in k (nat_insert n ms) ≡ true → (k ≡ n) ⊎ (nat_in k ms ≡ true)) → (k ≡ n) ⊎ (nat_in k (m ∷ ms) ≡ true)
    at Less i more = ⊎_elim (λ s. inl (eqb-true k n s)) (λ h. inr h) (or_cases (k == n) (nat_in k (m ∷ ms)) i)
    at Equal i more = inr i
    at Greater i more = ⊎_elim (λ s. inr (or_left _ _ s)) (λ h. ⊎_elim (λ e. inl e) (λ j. inr (or_right (k == m) _ j)) (more h)) (or_cases (k == m) (nat_in k (nat_insert n ms)) i)

pub filter_fewer : (f : ℕ → Bool) (xs : List ℕ) → length (filter f xs) ≤ length xs
filter_fewer f [] = omega arith
filter_fewer f (x ∷ xs) = at (f x) (filter_fewer f xs)
  where
    at : (b : Bool) → length (filter f xs) ≤ length xs → length (cond b (x ∷ filter f xs) (filter f xs)) ≤ length (x ∷ xs)
    at true h = omega arith
    at false h = omega arith

abbrev pub AreShards : List ℕ → List (ℕ × ℕ) → Type 0
AreShards splits ts = AllByRecursion (λ t. t.0 < shard_count splits) ts

pub lowest_any : (n : ℕ) (ts : List (ℕ × ℕ)) → is_lowest n ts ≡ true → list_any (λ t. t.0 == n) ts ≡ true
lowest_any n [] h = absurd (both_ways false refl h)
lowest_any n (t ∷ ts) h = or_left (t.0 == n) (list_any (λ t. t.0 == n) ts) (eq-eqb t.0 n (sym (eqb-true n t.0 h)))

pub map_append : {X Y : Type 0} (f : X → Y) (xs ys : List X) → map f (xs ++ ys) ≡ map f xs ++ map f ys
map_append f [] ys = refl
map_append f (x ∷ xs) ys = ap (λ l. f x ∷ l) (map_append f xs ys)

pub append_nil : {X : Type 0} (xs : List X) → xs ++ [] ≡ xs
append_nil [] = refl
append_nil (x ∷ xs) = ap (λ ys. x ∷ ys) (append_nil xs)

pub own_default : {X : Type 0} (xs : List X) (i : ℕ) (d : X) → i < length xs → get_or xs i d ≡ get_or xs i (get_or xs i d)
own_default [] i d l = absurd (omega arith)
own_default (x ∷ xs) zero d l = refl
own_default (x ∷ xs) (suc i) d l = own_default xs i d (omega arith)

pub set_same : {X : Type 0} (xs : List X) (j : ℕ) (x : X) → x ≡ get_or xs j x → set xs j x ≡ xs
set_same [] j x e = refl
set_same (z ∷ zs) zero x e = ap (λ l. l ∷ zs) e
set_same (z ∷ zs) (suc j) x e = ap (λ l. z ∷ l) (set_same zs j x e)

pub filter-few : {A : Type 0} (f : A → Bool) (xs : List A) → length (filter f xs) ≤ length xs
filter-few f [] = omega arith
filter-few f (x ∷ xs) = more (f x) (filter-few f xs)
  where
    more : (b : Bool) → length (filter f xs) ≤ length xs → length (cond b (x ∷ filter f xs) (filter f xs)) ≤ length (x ∷ xs)
    more true h = omega (arith, h)
    more false h = omega (arith, h)

abbrev pub IsBytes : List ℕ → Type 0
IsBytes xs = (i : ℕ) → get_or xs i 0 < 256

pub take_plus : {X : Type 0} (m k : ℕ) (xs : List X) → take (m + k) xs ≡ take m xs ++ take k (drop m xs)
take_plus zero k xs = let e : 0 + k ≡ k = omega arith in ap (λ n. take n xs) e
take_plus (suc m) k [] = let e : suc m + k ≡ suc (m + k) = omega arith in ap (λ n. take n []) e ∙ sym (nothing k)
  where
    nothing : {Y : Type 0} (n : ℕ) → take {A = Y} n [] ≡ []
    nothing zero = refl
    nothing (suc n) = refl
take_plus (suc m) k (x ∷ xs) = let e : suc m + k ≡ suc (m + k) = omega arith in ap (λ n. take n (x ∷ xs)) e ∙ ap (λ l. x ∷ l) (take_plus m k xs)

pub lowest_some : (n : ℕ) (ts : List (ℕ × ℕ)) → is_lowest n ts ≡ true → ts ≢ []
lowest_some n [] h k = both_ways false refl h
lowest_some n (t ∷ ts) h k = cc

pub is_shard : (splits : List ℕ) (k : ℕ) → shard_of splits k < shard_count splits
is_shard splits k = let h = count_by-le-length (λ s. nat_le s k) splits in omega arith

pub whole_range : {X : Type 0} (ys xs : List X) (n : ℕ) → ys ≡ slice_range xs 0 n → n ≡ length xs → ys ≡ xs
whole_range ys xs n e f =
    let none : length xs - 0 ≡ length xs = omega arith in
    let all : slice_range xs 0 (length xs) ≡ take (length xs) xs = ap (λ (k : ℕ). take k xs) none in
    e ∙ ap (slice_range xs 0) f ∙ all ∙ take-length xs

pub bytes_drop : (n : ℕ) (bytes : List ℕ) → IsBytes bytes → IsBytes (drop n bytes)
bytes_drop n bytes are i = subst (λ (b : ℕ). b < 256) (sym (get_or-drop n bytes i 0)) (are (n + i))

pushed : {A : Type 0} (P : ℕ → A → Type 0) (xs : List A) (x : A) → ((j : ℕ) (d : A) → j < length xs → P j (get_or xs j d)) → P (length xs) x → (j : ℕ) (d : A) → j < length xs + 1 → P j (get_or (xs ++ x ∷ []) j d)
pushed P [] x each new zero d l = new
pushed P [] x each new (suc j) d l = absurd (omega arith)
pushed P (y ∷ xs) x each new zero d l = each 0 d (omega arith)
pushed P (y ∷ xs) x each new (suc j) d l = pushed (λ i. P (suc i)) xs x (λ i e k. each (suc i) e (omega arith)) new j d (omega arith)

-- what holds of each by its place, and of one that is put behind the others
pub pushed_each : {A : Type 0} (P : ℕ → A → Type 0) (xs : List A) (x : A) (n : ℕ) → length xs ≡ n → ((j : ℕ) (d : A) → j < n → P j (get_or xs j d)) → P n x → (j : ℕ) (d : A) → j < n + 1 → P j (get_or (xs ++ x ∷ []) j d)
pushed_each P xs x n many each new j d l = pushed P xs x (λ i e k. each i e (omega arith)) (subst (λ m. P m x) (sym many) new) j d (omega arith)
