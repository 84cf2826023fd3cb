-- The writes of one transaction with the numbers of their operations: those behind a number are its newest.
use Rattle.std.proofs.Common.{◌≡◌, ℕ, suc, ◌<◌, ◌≤◌, Bool, true, false, nat_lt, List, [], ◌∷◌, ◌++◌, map, length, Option, Some, None, ◌==◌, refl, sym, ap, subst, ◌∙◌, arith, eqb-true, eq-eqb, ◌||◌}
use Rattle.std.specs.Prelude.{take}
use Rattle.std.specs.List.{AllByRecursion, filter}
use Rattle.std.proofs.lemmas.Bool.{cond-true, cond-false, false_from_ne_true, ltb-true, ltb-false}
use Rattle.clv_base.specs.declared.changes.Change.{Change}
use Rattle.clv_base.specs.Logs.{StandingUpdate}
use Rattle.clv_base.specs.Orders.{nat_in}
use Rattle.clv_base.specs.Backs.{count_after}
use Rattle.clv_base.proofs.SameNames.{or_left}
use Rattle.law_base.specs.Items.{Item, wrote, on_top, pile, AllLater}
use Rattle.law_base.proofs.Lists.{all_mono, all_both}
use Rattle.protocol_laws.proofs.LogsInOrder.StandingUpdatesLie.{Falling}

-- a write with the number of its operation
abbrev pub Numbered : Type 0
Numbered = StandingUpdate × ℕ

abbrev pub numbered_on : Item → Option (ℕ × Change) → List Numbered → List Numbered
numbered_on x None zs = zs
numbered_on x (Some w) zs = (record { lsn = x.lsn; tx = x.tx; key = w.0; change = w.1 }, x.number) ∷ zs

-- those of items over some, the newest first
abbrev pub numbered : List Item → List Numbered → List Numbered
numbered [] zs = zs
numbered (x ∷ xs) zs = numbered xs (numbered_on x (wrote x) zs)

abbrev pub writes_in : List Numbered → List StandingUpdate
writes_in zs = map (λ z. z.0) zs

abbrev pub numbers_in : List Numbered → List ℕ
numbers_in zs = map (λ z. z.1) zs

-- their writes are the pile
pub numbered_pile : (xs : List Item) (zs : List Numbered) → writes_in (numbered xs zs) ≡ pile xs (writes_in zs)
numbered_pile [] zs = refl
numbered_pile (x ∷ xs) zs = numbered_pile xs (numbered_on x (wrote x) zs) ∙ ap (pile xs) (at (wrote x))
  where
    at : (o : Option (ℕ × Change)) → writes_in (numbered_on x o zs) ≡ on_top x.tx x.lsn o (writes_in zs)
    at None = refl
    at (Some w) = refl

pub numbered_push : (xs : List Item) (x : Item) (zs : List Numbered) → numbered (xs ++ x ∷ []) zs ≡ numbered_on x (wrote x) (numbered xs zs)
numbered_push [] x zs = refl
numbered_push (y ∷ ys) x zs = numbered_push ys x (numbered_on y (wrote y) zs)

-- what holds of each, and of each with its item
pub numbered_rest : (P : Numbered → Type 0) (xs : List Item) (zs : List Numbered) → AllByRecursion P (numbered xs zs) → AllByRecursion P zs
numbered_rest P [] zs all = all
numbered_rest P (x ∷ xs) zs all = rest (wrote x) (numbered_rest P xs (numbered_on x (wrote x) zs) all)
  where
    rest : (o : Option (ℕ × Change)) → AllByRecursion P (numbered_on x o zs) → AllByRecursion P zs
    rest None a = a
    rest (Some w) a = a.1

pub numbered_each : (P : Numbered → Type 0) (xs : List Item) (zs : List Numbered) → AllByRecursion P (numbered xs zs)
    → AllByRecursion (λ x. (w : ℕ × Change) → wrote x ≡ Some w → P (record { lsn = x.lsn; tx = x.tx; key = w.0; change = w.1 }, x.number)) xs
numbered_each P [] zs all = tt
numbered_each P (x ∷ xs) zs all = (λ w e. at (wrote x) w e (numbered_rest P xs (numbered_on x (wrote x) zs) all), numbered_each P xs (numbered_on x (wrote x) zs) all)
  where
    at : (o : Option (ℕ × Change)) (w : ℕ × Change) → o ≡ Some w → AllByRecursion P (numbered_on x o zs) → P (record { lsn = x.lsn; tx = x.tx; key = w.0; change = w.1 }, x.number)
    at None w e a = absurd cc
    at (Some v) w e a = subst (λ u. P (record { lsn = x.lsn; tx = x.tx; key = u.0; change = u.1 }, x.number)) (same v w e) a.0
      where
        same : (v w : ℕ × Change) → Some v ≡ Some w → v ≡ w
        same v w e = cc

-- ---- of rising operations the numbers fall

abbrev pub NumbersFall : List Numbered → Type 0
NumbersFall zs = AllLater (λ z y. y.1 ≤ z.1) zs

pub numbers_fall : (xs : List Item) (zs : List Numbered) → AllLater (λ x y. x.number ≤ y.number) xs → AllByRecursion (λ x. AllByRecursion (λ z. z.1 ≤ x.number) zs) xs → NumbersFall zs → NumbersFall (numbered xs zs)
numbers_fall [] zs rise over fall = fall
numbers_fall (x ∷ xs) zs rise over fall = at (wrote x) (λ ys o f. numbers_fall xs ys rise.1 o f)
  where
    at : (o : Option (ℕ × Change)) → ((ys : List Numbered) → AllByRecursion (λ y. AllByRecursion (λ z. z.1 ≤ y.number) ys) xs → NumbersFall ys → NumbersFall (numbered xs ys)) → NumbersFall (numbered xs (numbered_on x o zs))
    at None more = more zs over.1 fall
    at (Some w) more = more ((record { lsn = x.lsn; tx = x.tx; key = w.0; change = w.1 }, x.number) ∷ zs) (all_both _ _ xs rise.0 over.1) (over.0, fall)

-- ---- the first so many are those behind a number

-- where none is behind it, none counts
none_after : (upto : ℕ) (zs : List Numbered) → AllByRecursion (λ z. nat_lt upto z.1 ≡ false) zs → count_after upto (numbers_in zs) ≡ 0
none_after upto [] all = refl
none_after upto (z ∷ zs) all = ap length (cond-false (nat_lt upto z.1) (z.1 ∷ filter (nat_lt upto) (numbers_in zs)) (filter (nat_lt upto) (numbers_in zs)) all.0) ∙ none_after upto zs all.1

abbrev lsns_of : List Numbered → List ℕ
lsns_of zs = map (λ w. w.lsn) (writes_in zs)

abbrev TellAfter : ℕ → List ℕ → List Numbered → Type 0
TellAfter upto ls ys = AllByRecursion (λ y. nat_in (y.0).lsn ls ≡ nat_lt upto y.1) ys

pub first_after : (upto : ℕ) (zs : List Numbered) → Falling (writes_in zs) → NumbersFall zs → AllByRecursion (λ z. nat_in (z.0).lsn (take (count_after upto (numbers_in zs)) (map (λ w. w.lsn) (writes_in zs))) ≡ nat_lt upto z.1) zs
first_after upto [] falls fall = tt
first_after upto (z ∷ zs) falls fall = at (nat_lt upto z.1) refl (first_after upto zs falls.1 fall.1)
  where
    apart : (ys : List Numbered) → AllByRecursion (λ v. v.lsn < (z.0).lsn) (writes_in ys) → AllByRecursion (λ y. ((y.0).lsn == (z.0).lsn) ≡ false) ys
    apart [] low = tt
    apart (y ∷ ys) low = (false_from_ne_true _ (λ e. let l = low.0 in let q = eqb-true (y.0).lsn (z.0).lsn e in omega (arith, l, q)), apart ys low.1)

    at : (b : Bool) → nat_lt upto z.1 ≡ b → TellAfter upto (take (count_after upto (numbers_in zs)) (lsns_of zs)) zs → TellAfter upto (take (count_after upto (z.1 ∷ numbers_in zs)) ((z.0).lsn ∷ lsns_of zs)) (z ∷ zs)
    at true e ih =
        let count : count_after upto (z.1 ∷ numbers_in zs) ≡ suc (count_after upto (numbers_in zs)) = ap length (cond-true (nat_lt upto z.1) (z.1 ∷ filter (nat_lt upto) (numbers_in zs)) (filter (nat_lt upto) (numbers_in zs)) e) in
        subst (λ n. TellAfter upto (take n ((z.0).lsn ∷ lsns_of zs)) (z ∷ zs)) (sym count)
        (or_left _ _ (eq-eqb (z.0).lsn (z.0).lsn refl) ∙ sym e, all_mono _ _ (λ y h. ap (λ b. b || nat_in (y.0).lsn (take (count_after upto (numbers_in zs)) (lsns_of zs))) h.0 ∙ h.1) zs (all_both _ _ zs (apart zs falls.0) ih))
    at false e ih =
        let low : AllByRecursion (λ y. nat_lt upto y.1 ≡ false) zs = all_mono _ _ (λ y l. below y.1 l) zs fall.0 in
        subst (λ n. TellAfter upto (take n ((z.0).lsn ∷ lsns_of zs)) (z ∷ zs)) (sym (none_after upto (z ∷ zs) (e, low))) (sym e, all_mono _ _ (λ y l. sym l) zs low)
      where
        below : (n : ℕ) → n ≤ z.1 → nat_lt upto n ≡ false
        below n l = false_from_ne_true _ (λ h. let k = ltb-true upto n h in let m = ltb-false upto z.1 e in omega (arith, l, k, m))
