-- The members of a cut are a serial run: what they did in one order they did, one after another.
use Rattle.std.proofs.Common.{◌≡◌, ℕ, zero, suc, ◌+◌, ◌<◌, ◌⊎◌, ⊎_elim, Bool, true, false, cond, not, ◌&&◌, ◌||◌, nat_lt, List, [], ◌∷◌, ◌++◌, map, length, Option, Some, None, ◌==◌, refl, sym, ap, subst, ◌∙◌, arith, append_assoc, eqb-true, eq-eqb}
use Rattle.std.specs.List.{AllByRecursion, filter, list_any}
use Rattle.std.proofs.lemmas.Bool.{cases_Bool, both_ways, cond_both, cond-true, cond-false, or_cases, and_from, and_parts, false_from_ne_true, or_from, ltb-true}
use Rattle.std.proofs.lemmas.List.{map-append}
use Rattle.std.proofs.lemmas.List.Folds.{list_any-append}
use Rattle.clv_base.specs.declared.names.TxId.{TxId}
use Rattle.clv_base.specs.declared.ops.Op.{Op}
use Rattle.clv_base.specs.declared.ops.Answer.{Answer}
use Rattle.clv_base.specs.Orders.{tx_same, tx_in}
use Rattle.clv_base.specs.Maps.{KeyMap, Operates, GoesBack, op_answer, op_after, replay_map, replay_answers}
use Rattle.clv_base.specs.Folding.{IsRising, adds, meets_written, key_written, meets_key}
use Rattle.clv_base.specs.Backs.{PlacedAct, is_later_of, held_after, held_of, map_of, AnswerFits, KeepsBase, all_done, met_by, mets, ops_clash, acts_clash, is_clear_of, keeps_order, are_numbered, acts_at, answers_at, each_from, AllActsBelow}
use Rattle.clv_base.proofs.SameNames.{or_left, or_right, tx_true}
use Rattle.law_base.specs.Items.{Item, Deed, Did, WentBack, writes, is_beyond, both_add, held_with, held_from, held, Answers, ActsFrom, Acts, after, AllLater, Clash}
use Rattle.law_base.proofs.Bools.{none_or}
use Rattle.law_base.proofs.Lists.{all_mono, all_both, all_kept, all_filter, all_push, later_push}
use Rattle.law_base.proofs.Names.{written_at as written_some}
use Rattle.law_base.proofs.Running.{write_met}
use Rattle.law_base.proofs.Sets.{flip_apart}
use Rattle.serial_laws.proofs.ActsAreSerialRun.{acts_are_serial_run}
use Rattle.shard_laws.specs.OneShard.{doer, deeds_of, items_in, act_of_deed, acts_by, answers_by, GoBackInOrder, NobodyBetween, IsApartFrom}
use Rattle.shard_laws.proofs.Keeping.ClosingKeeps.{place_in}
use Rattle.shard_laws.proofs.Keeping.DeedsThatHold.{Between, between_pop_from, all_held, deed_by_deed, items_append, items_back, later_pop}
use Rattle.shard_laws.proofs.Keeping.WhatOneShardKeeps.{place}

-- ---- places among those that are kept

pub filter_place : (keep : TxId → Bool) (as_ : List TxId) (a b : TxId) → keep a ≡ true → keep b ≡ true → place as_ a < place as_ b → place (filter keep as_) a < place (filter keep as_) b
filter_place keep [] a b ka kb l = absurd (omega arith)
filter_place keep (c ∷ cs) a b ka kb l = at (tx_same a c) (tx_same b c) (keep c) refl refl refl l (filter_place keep cs a b ka kb)
  where
    at : (p q r : Bool) → tx_same a c ≡ p → tx_same b c ≡ q → keep c ≡ r → cond p zero (suc (place cs a)) < cond q zero (suc (place cs b)) → (place cs a < place cs b → place (filter keep cs) a < place (filter keep cs) b) → place (cond r (c ∷ filter keep cs) (filter keep cs)) a < place (cond r (c ∷ filter keep cs) (filter keep cs)) b
    at true true r e f g l ih = absurd (omega arith)
    at false true r e f g l ih = absurd (omega arith)
    at true false false e f g l ih = absurd (both_ways _ g (subst (λ z. keep z ≡ true) (tx_true a c e) ka))
    at true false true e f g l ih =
        let x : place (c ∷ filter keep cs) a ≡ zero = cond-true (tx_same a c) zero _ e in
        let y : place (c ∷ filter keep cs) b ≡ suc (place (filter keep cs) b) = cond-false (tx_same b c) zero _ f in
        omega arith
    at false false true e f g l ih =
        let x : place (c ∷ filter keep cs) a ≡ suc (place (filter keep cs) a) = cond-false (tx_same a c) zero _ e in
        let y : place (c ∷ filter keep cs) b ≡ suc (place (filter keep cs) b) = cond-false (tx_same b c) zero _ f in
        let m = ih (omega arith) in
        omega arith
    at false false false e f g l ih = ih (omega arith)

pub in_kept : (keep : TxId → Bool) (as_ : List TxId) (t : TxId) → tx_in t as_ ≡ true → keep t ≡ true → tx_in t (filter keep as_) ≡ true
in_kept keep [] t e k = e
in_kept keep (a ∷ rest) t e k =
    ⊎_elim
    (λ h. subst (λ l. tx_in t l ≡ true) (sym (cond-true (keep a) (a ∷ filter keep rest) (filter keep rest) (subst (λ z. keep z ≡ true) (sym (tx_true a t h)) k))) (or_left _ _ h))
    (λ h. cond_both (keep a) (a ∷ filter keep rest) (filter keep rest) (λ l. tx_in t l ≡ true) (λ s. or_right (tx_same a t) _ (in_kept keep rest t h k)) (λ s. in_kept keep rest t h k))
    (or_cases (tx_same a t) (tx_in t rest) e)

-- each stands once
abbrev pub Once : List TxId → Type 0
Once [] = Unit {0}
Once (a ∷ rest) = (tx_in a rest ≡ false) × Once rest

out_filter : (keep : TxId → Bool) (as_ : List TxId) (t : TxId) → tx_in t as_ ≡ false → tx_in t (filter keep as_) ≡ false
out_filter keep [] t e = refl
out_filter keep (a ∷ rest) t e = cond_both (keep a) (a ∷ filter keep rest) (filter keep rest) (λ l. tx_in t l ≡ false) (λ s. none (tx_same a t) (tx_in t rest) (tx_in t (filter keep rest)) e (out_filter keep rest t)) (λ s. out_filter keep rest t (right (tx_same a t) (tx_in t rest) e))
  where
    right : (a b : Bool) → (a || b) ≡ false → b ≡ false
    right true b e = absurd (both_ways true e refl)
    right false b e = e

    none : (a b c : Bool) → (a || b) ≡ false → (b ≡ false → c ≡ false) → (a || c) ≡ false
    none true b c e h = e
    none false b c e h = h e

pub once_filter : (keep : TxId → Bool) (as_ : List TxId) → Once as_ → Once (filter keep as_)
once_filter keep [] o = tt
once_filter keep (a ∷ rest) o = cond_both (keep a) (a ∷ filter keep rest) (filter keep rest) Once (λ e. (out_filter keep rest a o.0, once_filter keep rest o.1)) (λ e. once_filter keep rest o.1)

pub once_push : (as_ : List TxId) (t : TxId) → Once as_ → tx_in t as_ ≡ false → Once (as_ ++ t ∷ [])
once_push [] t o e = (refl, tt)
once_push (a ∷ rest) t o e =
    let p = none_or (tx_same a t) (tx_in t rest) e in
    (list_any-append (λ x. tx_same x a) rest (t ∷ []) ∙ or_from (tx_in a rest) (tx_same t a || false) o.0 (or_from (tx_same t a) false (flip_apart a t p.0) refl), once_push rest t o.1 p.1)

-- those of a list have places of their own
own_place : (as_ : List TxId) (x t : TxId) → tx_in t as_ ≡ true → place as_ x ≡ place as_ t → tx_same x t ≡ true
own_place [] x t i e = absurd (both_ways false refl i)
own_place (a ∷ rest) x t i e = by (tx_same x a) (tx_same t a) refl refl e (own_place rest x t)
  where
    by : (b c : Bool) → tx_same x a ≡ b → tx_same t a ≡ c → cond b zero (suc (place rest x)) ≡ cond c zero (suc (place rest t)) → (tx_in t rest ≡ true → place rest x ≡ place rest t → tx_same x t ≡ true) → tx_same x t ≡ true
    by true true f g e ih = subst (λ z. tx_same x z ≡ true) (sym (tx_true t a g)) f
    by true false f g e ih = absurd (omega (arith, e))
    by false true f g e ih = absurd (omega (arith, e))
    by false false f g e ih = ih (⊎_elim (λ h. absurd (both_ways _ (flip_apart t a g) h)) (λ h. h) (or_cases (tx_same a t) (tx_in t rest) i)) (omega (arith, e))

pub place_same : (ms : List TxId) (x t : TxId) → tx_in t ms ≡ true → (place ms x == place ms t) ≡ tx_same x t
place_same ms x t i = at (tx_same x t) refl
  where
    at : (b : Bool) → tx_same x t ≡ b → (place ms x == place ms t) ≡ b
    at true e = eq-eqb (place ms x) (place ms t) (ap (place ms) (tx_true x t e))
    at false e = false_from_ne_true _ (λ h. both_ways _ e (own_place ms x t i (eqb-true (place ms x) (place ms t) h)))

-- ---- deeds at places

abbrev pub placed_item : List TxId → Item → PlacedAct
placed_item ms x = record { place = place ms x.tx; number = x.number; act = Operates x.op; answer = Some x.answer }

abbrev pub placed : List TxId → Deed → PlacedAct
placed ms (Did x) = placed_item ms x
placed ms (WentBack tx number upto) = record { place = place ms tx; number = number; act = GoesBack upto; answer = None }

abbrev IsIn : List TxId → TxId → Type 0
IsIn ms t = tx_in t ms ≡ true

abbrev DoIn : List TxId → List Deed → Type 0
DoIn ms ds = AllByRecursion (λ d. IsIn ms (doer d)) ds

later_is : (ms : List TxId) (t : TxId) (u : ℕ) (x : Item) → IsIn ms t → is_later_of (place ms t) u (placed_item ms x) ≡ is_beyond t u x
later_is ms t u x i = ap (λ b. b && nat_lt u x.number) (place_same ms x.tx t i)

stay_placed : (ms : List TxId) (t : TxId) (u : ℕ) (xs : List Item) → IsIn ms t → filter (λ q. not (is_later_of (place ms t) u q)) (map (placed_item ms) xs) ≡ map (placed_item ms) (filter (λ x. not (is_beyond t u x)) xs)
stay_placed ms t u [] i = refl
stay_placed ms t u (x ∷ xs) i =
    ap (λ b. cond (not b) (placed_item ms x ∷ filter (λ q. not (is_later_of (place ms t) u q)) (map (placed_item ms) xs)) (filter (λ q. not (is_later_of (place ms t) u q)) (map (placed_item ms) xs))) (later_is ms t u x i)
    ∙ at (is_beyond t u x) (stay_placed ms t u xs i)
  where
    at : (b : Bool) → filter (λ q. not (is_later_of (place ms t) u q)) (map (placed_item ms) xs) ≡ map (placed_item ms) (filter (λ x. not (is_beyond t u x)) xs)
        → cond (not b) (placed_item ms x ∷ filter (λ q. not (is_later_of (place ms t) u q)) (map (placed_item ms) xs)) (filter (λ q. not (is_later_of (place ms t) u q)) (map (placed_item ms) xs))
        ≡ map (placed_item ms) (cond (not b) (x ∷ filter (λ x. not (is_beyond t u x)) xs) (filter (λ x. not (is_beyond t u x)) xs))
    at true ih = ih
    at false ih = ap (λ l. placed_item ms x ∷ l) ih

held_step : (ms : List TxId) (xs : List Item) (d : Deed) → IsIn ms (doer d) → held_after (map (placed_item ms) xs) (placed ms d) ≡ map (placed_item ms) (held_with xs d)
held_step ms xs (Did y) i = sym (map-append (placed_item ms) xs (y ∷ []))
held_step ms xs (WentBack tx number upto) i = stay_placed ms tx upto xs i

held_placed : (ms : List TxId) (xs : List Item) (ds : List Deed) → DoIn ms ds → held_of (map (placed_item ms) xs) (map (placed ms) ds) ≡ map (placed_item ms) (held_from xs ds)
held_placed ms xs [] i = refl
held_placed ms xs (d ∷ ds) i = ap (λ l. held_of l (map (placed ms) ds)) (held_step ms xs d i.0) ∙ held_placed ms (held_with xs d) ds i.1

map_placed : (ms : List TxId) (m : KeyMap) (xs : List Item) → map_of m (map (placed_item ms) xs) ≡ after m xs
map_placed ms m [] = refl
map_placed ms m (x ∷ xs) = map_placed ms (op_after x.op m) xs

-- each answer is that of the map with the earlier ones that hold
base_placed : (ms : List TxId) (m : KeyMap) (xs : List Item) (ds : List Deed) → DoIn ms ds → ActsFrom m xs ds → KeepsBase m (map (placed_item ms) xs) (map (placed ms) ds)
base_placed ms m xs [] i a = tt
base_placed ms m xs (d ∷ ds) i a = (fits d a.0, subst (λ l. KeepsBase m l (map (placed ms) ds)) (sym (held_step ms xs d i.0)) (base_placed ms m (held_with xs d) ds i.1 a.1))
  where
    fits : (e : Deed) → Answers m xs e → AnswerFits (placed ms e) (map_of m (map (placed_item ms) xs)) (placed ms e).act
    fits (Did y) r = subst (λ n. Some y.answer ≡ Some (op_answer y.op n)) (sym (map_placed ms m xs)) (ap Some r)
    fits (WentBack tx number upto) r = refl

-- ---- what deeds meet

-- an operation meets what it does; a going back what it takes away
abbrev met_items : List Item → Deed → List Item
met_items xs (Did y) = y ∷ []
met_items xs (WentBack tx number upto) = filter (is_beyond tx upto) xs

abbrev meetings : List Item → List Deed → List (TxId × List Item)
meetings xs [] = []
meetings xs (d ∷ ds) = (doer d, met_items xs d) ∷ meetings (held_with xs d) ds

abbrev pair : Item → Op × Answer
pair x = (x.op, x.answer)

abbrev placed_meeting : List TxId → TxId × List Item → ℕ × List (Op × Answer)
placed_meeting ms p = (place ms p.0, map pair p.1)

done_placed : (ms : List TxId) (t : TxId) (u : ℕ) (xs : List Item) → IsIn ms t → all_done (filter (is_later_of (place ms t) u) (map (placed_item ms) xs)) ≡ map pair (filter (is_beyond t u) xs)
done_placed ms t u [] i = refl
done_placed ms t u (x ∷ xs) i =
    ap (λ b. all_done (cond b (placed_item ms x ∷ filter (is_later_of (place ms t) u) (map (placed_item ms) xs)) (filter (is_later_of (place ms t) u) (map (placed_item ms) xs)))) (later_is ms t u x i)
    ∙ at (is_beyond t u x) (done_placed ms t u xs i)
  where
    at : (b : Bool) → all_done (filter (is_later_of (place ms t) u) (map (placed_item ms) xs)) ≡ map pair (filter (is_beyond t u) xs)
        → all_done (cond b (placed_item ms x ∷ filter (is_later_of (place ms t) u) (map (placed_item ms) xs)) (filter (is_later_of (place ms t) u) (map (placed_item ms) xs))) ≡ map pair (cond b (x ∷ filter (is_beyond t u) xs) (filter (is_beyond t u) xs))
    at true ih = ap (λ l. pair x ∷ l) ih
    at false ih = ih

met_placed : (ms : List TxId) (xs : List Item) (d : Deed) → IsIn ms (doer d) → met_by (map (placed_item ms) xs) (placed ms d) (placed ms d).act ≡ map pair (met_items xs d)
met_placed ms xs (Did y) i = refl
met_placed ms xs (WentBack tx number upto) i = done_placed ms tx upto xs i

place_doer : (ms : List TxId) (d : Deed) → (placed ms d).place ≡ place ms (doer d)
place_doer ms (Did y) = refl
place_doer ms (WentBack tx number upto) = refl

mets_placed : (ms : List TxId) (xs : List Item) (ds : List Deed) → DoIn ms ds → mets (map (placed_item ms) xs) (map (placed ms) ds) ≡ map (placed_meeting ms) (meetings xs ds)
mets_placed ms xs [] i = refl
mets_placed ms xs (d ∷ ds) i =
    ap (λ n. (n, met_by (map (placed_item ms) xs) (placed ms d) (placed ms d).act) ∷ mets (held_after (map (placed_item ms) xs) (placed ms d)) (map (placed ms) ds)) (place_doer ms d)
    ∙ ap (λ l. (place ms (doer d), l) ∷ mets (held_after (map (placed_item ms) xs) (placed ms d)) (map (placed ms) ds)) (met_placed ms xs d i.0)
    ∙ ap (λ l. placed_meeting ms (doer d, met_items xs d) ∷ mets l (map (placed ms) ds)) (held_step ms xs d i.0)
    ∙ ap (λ l. placed_meeting ms (doer d, met_items xs d) ∷ l) (mets_placed ms (held_with xs d) ds i.1)

-- one deed more
meetings_push : (xs : List Item) (ds : List Deed) (e : Deed) → meetings xs (ds ++ e ∷ []) ≡ meetings xs ds ++ (doer e, met_items (held_from xs ds) e) ∷ []
meetings_push xs [] e = refl
meetings_push xs (d ∷ ds) e = ap (λ l. (doer d, met_items xs d) ∷ l) (meetings_push (held_with xs d) ds e)

-- each meets operations of its own transaction, which were done
own_met : (xs : List Item) (d : Deed) → AllByRecursion (λ x. x.tx ≡ doer d) (met_items xs d)
own_met xs (Did y) = (refl, tt)
own_met xs (WentBack tx number upto) = from xs
  where
    from : (ys : List Item) → AllByRecursion (λ x. x.tx ≡ tx) (filter (is_beyond tx upto) ys)
    from [] = tt
    from (y ∷ ys) = cond_both (is_beyond tx upto y) (y ∷ filter (is_beyond tx upto) ys) (filter (is_beyond tx upto) ys) (AllByRecursion (λ x. x.tx ≡ tx)) (λ e. (tx_true y.tx tx (and_parts (tx_same y.tx tx) (nat_lt upto y.number) e).0, from ys)) (λ e. from ys)

abbrev Meets : (Item → Type 0) → TxId × List Item → Type 0
Meets P p = AllByRecursion (λ x. P x × (x.tx ≡ p.0)) p.1

meetings_all : (P : Item → Type 0) (xs : List Item) (ds : List Deed) → AllByRecursion P xs → AllByRecursion P (items_in ds) → AllByRecursion (Meets P) (meetings xs ds)
meetings_all P xs [] a b = tt
meetings_all P xs (Did y ∷ ds) a b = (((b.0, refl), tt), meetings_all P (xs ++ y ∷ []) ds (all_push P xs y a b.0) b.1)
meetings_all P xs (WentBack tx number upto ∷ ds) a b =
    (all_both _ _ (filter (is_beyond tx upto) xs) (all_kept P (is_beyond tx upto) xs a) (own_met xs (WentBack tx number upto)), meetings_all P (filter (λ x. not (is_beyond tx upto x)) xs) ds (all_kept P _ xs a) b)

-- ---- no clash with an earlier one of a higher place

clash_flip : (x y : Item) → Clash x y → Clash y x
clash_flip x y (k, mx, my, w, b) = (k, my, mx, at (writes x k) refl w, flip (adds x.op x.answer) (adds y.op y.answer) b)
  where
    flip : (a c : Bool) → (a && c) ≡ false → (c && a) ≡ false
    flip true true e = e
    flip true false e = refl
    flip false true e = refl
    flip false false e = refl

    at : (c : Bool) → writes x k ≡ c → (writes x k ≡ false → writes y k ≡ true) → writes y k ≡ false → writes x k ≡ true
    at true e h n = e
    at false e h n = absurd (both_ways _ n (h e))

later_two : {I : Type 0} (R Q : I → I → Type 0) (xs : List I) → AllLater R xs → AllLater Q xs → AllLater (λ x y. R x y × Q x y) xs
later_two R Q [] a b = tt
later_two R Q (x ∷ xs) a b = (all_both _ _ xs a.0 b.0, later_two R Q xs a.1 b.1)

-- where of each two the later fits the earlier both ways, and each itself, each fits each
each_pair : {I : Type 0} (R Q : I → I → Type 0) → ((a b : I) → R a b → Q a b × Q b a) → ((a : I) → Q a a) → (xs : List I) → AllLater R xs → AllByRecursion (λ x. AllByRecursion (Q x) xs) xs
each_pair R Q both own [] a = tt
each_pair R Q both own (x ∷ xs) a = (
  (own x, all_mono (R x) (Q x) (λ y r. (both x y r).0) xs a.0),
  all_mono _ _ (λ y h. (h.0, h.1)) xs (all_both (λ y. Q y x) (λ y. AllByRecursion (Q y) xs) xs (all_mono (R x) (λ y. Q y x) (λ y r. (both x y r).1) xs a.0) (each_pair R Q both own xs a.1)),
)

module _ (ms : List TxId) where
  abbrev Ordered : Item → Item → Type 0
  Ordered x y = Clash x y → (x.tx ≡ y.tx) ⊎ (place ms x.tx < place ms y.tx)

  abbrev Clear : TxId × List Item → TxId × List Item → Type 0
  Clear p q = place ms q.0 < place ms p.0 → AllByRecursion (λ x. AllByRecursion (λ y. Clash x y → ⊥) q.1) p.1

  -- what a going back takes away clashed with none of a higher place
  abbrev Apart : TxId → ℕ → Item → Item → Type 0
  Apart t u x y = is_beyond t u y ≡ true → place ms y.tx < place ms x.tx → Clash x y → ⊥

  apart_both : (t : TxId) (u : ℕ) (x y : Item) → Ordered x y × (is_beyond t u x ≡ true → IsApartFrom x y) → Apart t u x y × Apart t u y x
  apart_both t u x y r = (
    (λ b l c. ⊎_elim (λ s. let e = ap (place ms) s in absurd (omega (arith, e, l))) (λ m. absurd (omega (arith, m, l))) (r.0 c)),
    (λ b l c. let e = ap (place ms) (r.1 b (clash_flip y x c)) in absurd (omega (arith, e, l))),
  )

  clear_push : (ds : List Deed) (e : Deed) → AllLater Ordered (items_in (ds ++ e ∷ [])) → NobodyBetween [] (ds ++ e ∷ []) → AllLater Clear (meetings [] ds) → AllLater Clear (meetings [] (ds ++ e ∷ []))
  clear_push ds e o b ih = subst (AllLater Clear) (sym (meetings_push [] ds e)) (later_push Clear (meetings [] ds) (doer e, met_items (held ds) e) ih (one e o (between_pop_from [] ds e b).1))
    where
      one : (e : Deed) → AllLater Ordered (items_in (ds ++ e ∷ [])) → Between (items_in ds) e → AllByRecursion (λ p. Clear p (doer e, met_items (held ds) e)) (meetings [] ds)
      one (Did y) o b =
          let p = later_pop Ordered (items_in ds) y (subst (AllLater Ordered) (items_append ds (Did y ∷ [])) o) in
          all_mono _ _ (λ p h l. all_mono _ _ (λ x r. ((λ c. ⊎_elim (λ s. let e = ap (place ms) (sym r.1 ∙ s) in absurd (omega (arith, e, l))) (λ m. let e = ap (place ms) r.1 in absurd (omega (arith, e, m, l))) (r.0 c)), tt)) p.1 h)
          (meetings [] ds) (meetings_all (λ x. Ordered x y) [] ds tt p.1)
      one (WentBack t number u) o b =
          let each = each_pair (λ x y. Ordered x y × (is_beyond t u x ≡ true → IsApartFrom x y)) (Apart t u) (apart_both t u) (λ x g l c. absurd (omega (arith, l))) (items_in ds) (later_two Ordered _ (items_in ds) (subst (AllLater Ordered) (items_back ds t number u) o) b) in
          all_mono _ _ (λ p h l. all_mono _ _ (λ x r. all_mono _ _ (λ y f c. f.0.0 f.0.1 (let e = ap (place ms) r.1 in let g = ap (place ms) f.1 in omega (arith, e, g, l)) c) (filter (is_beyond t u) (held ds)) r.0) p.1 h)
          (meetings [] ds) (meetings_all (λ x. AllByRecursion (λ y. (Apart t u x y × (is_beyond t u y ≡ true)) × (y.tx ≡ t)) (filter (is_beyond t u) (held ds))) [] ds tt
          (all_mono _ _ (λ x a. all_both _ _ (filter (is_beyond t u) (held ds)) (all_filter _ (is_beyond t u) (held ds) (all_held (Apart t u x) ds a)) (own_met (held ds) (WentBack t number u))) (items_in ds) each))

  clear_all : (ds : List Deed) → AllLater Ordered (items_in ds) → NobodyBetween [] ds → AllLater Clear (meetings [] ds)
  clear_all ds = deed_by_deed (λ es. AllLater Ordered (items_in es) → NobodyBetween [] es → AllLater Clear (meetings [] es)) (λ o b. tt)
      (λ es e ih o b. clear_push es e o b (ih (earlier es e o) (between_pop_from [] es e b).0)) ds
    where
      earlier : (es : List Deed) (e : Deed) → AllLater Ordered (items_in (es ++ e ∷ [])) → AllLater Ordered (items_in es)
      earlier es (Did y) o = (later_pop Ordered (items_in es) y (subst (AllLater Ordered) (items_append es (Did y ∷ [])) o)).0
      earlier es (WentBack tx number upto) o = subst (AllLater Ordered) (items_back es tx number upto) o

-- ---- so the deeds keep the order of places

met_some : (o : Op) (w : Option ℕ) → meets_written o w ≡ true → (k : ℕ) × (w ≡ Some k) × (meets_key o k ≡ true)
met_some o None e = absurd (both_ways false refl e)
met_some o (Some k) e = (k, refl, e)

clash_from : (x y : Item) → ops_clash (pair x) (pair y) ≡ true → Clash x y
clash_from x y e = at (both_add x y) refl e
  where
    at : (b : Bool) → both_add x y ≡ b → (not b && (meets_written y.op (key_written x.op x.answer) || meets_written x.op (key_written y.op y.answer))) ≡ true → Clash x y
    at true s e = absurd (both_ways false refl e)
    at false s e =
        ⊎_elim
        (λ h. let m = met_some y.op (key_written x.op x.answer) h in
        let w = written_some x.op x.answer m.0 m.1 in
        (m.0, write_met x m.0 w, m.2, (λ f. absurd (both_ways _ f w)), s))
        (λ h. let m = met_some x.op (key_written y.op y.answer) h in
        let w = written_some y.op y.answer m.0 m.1 in
        (m.0, m.2, write_met y m.0 w, (λ f. w), s))
        (or_cases (meets_written y.op (key_written x.op x.answer)) (meets_written x.op (key_written y.op y.answer)) e)

none_clash : (xs ys : List Item) → AllByRecursion (λ x. AllByRecursion (λ y. Clash x y → ⊥) ys) xs → acts_clash (map pair xs) (map pair ys) ≡ false
none_clash [] ys a = refl
none_clash (x ∷ xs) ys a = or_from _ _ (one ys a.0) (none_clash xs ys a.1)
  where
    one : (ys : List Item) → AllByRecursion (λ y. Clash x y → ⊥) ys → list_any (ops_clash (pair x)) (map pair ys) ≡ false
    one [] a = refl
    one (y ∷ ys) a = or_from _ _ (false_from_ne_true _ (λ c. a.0 (clash_from x y c))) (one ys a.1)

order_placed : (ms : List TxId) (ps : List (TxId × List Item)) → AllLater (Clear ms) ps → keeps_order (map (placed_meeting ms) ps) ≡ true
order_placed ms [] a = refl
order_placed ms (p ∷ ps) a = and_from _ _ (clear ps a.0) (order_placed ms ps a.1)
  where
    clear : (qs : List (TxId × List Item)) → AllByRecursion (Clear ms p) qs → is_clear_of (placed_meeting ms p) (map (placed_meeting ms) qs) ≡ true
    clear [] a = refl
    clear (q ∷ qs) a = and_from _ _ (at (nat_lt (place ms q.0) (place ms p.0)) refl) (clear qs a.1)
      where
        at : (b : Bool) → nat_lt (place ms q.0) (place ms p.0) ≡ b → (not b || not (acts_clash (map pair p.1) (map pair q.1))) ≡ true
        at false e = refl
        at true e = ap not (none_clash p.1 q.1 (a.0 (ltb-true (place ms q.0) (place ms p.0) e)))

below_placed : (ms : List TxId) (ds : List Deed) → DoIn ms ds → AllActsBelow (length ms) (map (placed ms) ds)
below_placed ms [] i = tt
below_placed ms (d ∷ ds) i = (subst (λ n. n < length ms) (sym (place_doer ms d)) (place_in ms (doer d) i.0), below_placed ms ds i.1)

-- ---- each transaction's acts and answers

suc_eq : (a b : ℕ) → (suc a == suc b) ≡ (a == b)
suc_eq a b = ⊎_elim (λ e. eq-eqb (suc a) (suc b) (ap suc (eqb-true a b e)) ∙ sym e) (λ e. false_from_ne_true _ (λ h. both_ways _ e (eq-eqb a b (let s = eqb-true (suc a) (suc b) h in omega arith))) ∙ sym e) (cases_Bool (a == b))

zero_suc : (a : ℕ) → (zero == suc a) ≡ false
zero_suc a = false_from_ne_true _ (λ h. let s = eqb-true zero (suc a) h in absurd (omega arith))

suc_zero : (a : ℕ) → (suc a == zero) ≡ false
suc_zero a = false_from_ne_true _ (λ h. let s = eqb-true (suc a) zero h in absurd (omega arith))

place_first : (t u : TxId) (rest : List TxId) → (place (t ∷ rest) u == zero) ≡ tx_same u t
place_first t u rest = at (tx_same u t)
  where
    at : (b : Bool) → (cond b zero (suc (place rest u)) == zero) ≡ b
    at true = eq-eqb zero zero refl
    at false = suc_zero (place rest u)

place_at : (done : List TxId) (t u : TxId) (rest : List TxId) → tx_in t done ≡ false → (place (done ++ t ∷ rest) u == length done) ≡ tx_same u t
place_at [] t u rest out = place_first t u rest
place_at (d ∷ ds) t u rest out = at (tx_same u d) refl (place_at ds t u rest (none_or (tx_same d t) (tx_in t ds) out).1)
  where
    len : length (d ∷ ds) ≡ suc (length ds)
    len = omega arith

    at : (b : Bool) → tx_same u d ≡ b → (place (ds ++ t ∷ rest) u == length ds) ≡ tx_same u t → (cond b zero (suc (place (ds ++ t ∷ rest) u)) == length (d ∷ ds)) ≡ tx_same u t
    at true e ih = ap (λ n. zero == n) len ∙ zero_suc (length ds) ∙ sym (ap (λ z. tx_same z t) (tx_true u d e) ∙ (none_or (tx_same d t) (tx_in t ds) out).0)
    at false e ih = ap (λ n. suc (place (ds ++ t ∷ rest) u) == n) len ∙ suc_eq (place (ds ++ t ∷ rest) u) (length ds) ∙ ih

acts_here : (done : List TxId) (t : TxId) (rest : List TxId) (ds : List Deed) → tx_in t done ≡ false → acts_at (length done) (map (placed (done ++ t ∷ rest)) ds) ≡ map act_of_deed (deeds_of t ds)
acts_here done t rest [] out = refl
acts_here done t rest (d ∷ ds) out =
    ap (λ b. cond b ((p.number, p.act) ∷ acts_at (length done) (map (placed ms) ds)) (acts_at (length done) (map (placed ms) ds))) (ap (λ n. n == length done) (place_doer ms d) ∙ place_at done t (doer d) rest out)
    ∙ at (tx_same (doer d) t) (acts_here done t rest ds out)
  where
    ms : List TxId
    ms = done ++ t ∷ rest

    p : PlacedAct
    p = placed (done ++ t ∷ rest) d

    act : (e : Deed) → ((placed (done ++ t ∷ rest) e).number, (placed (done ++ t ∷ rest) e).act) ≡ act_of_deed e
    act (Did x) = refl
    act (WentBack tx number upto) = refl

    at : (b : Bool) → acts_at (length done) (map (placed (done ++ t ∷ rest)) ds) ≡ map act_of_deed (deeds_of t ds)
        → cond b (((placed (done ++ t ∷ rest) d).number, (placed (done ++ t ∷ rest) d).act) ∷ acts_at (length done) (map (placed (done ++ t ∷ rest)) ds)) (acts_at (length done) (map (placed (done ++ t ∷ rest)) ds))
        ≡ map act_of_deed (cond b (d ∷ deeds_of t ds) (deeds_of t ds))
    at true ih = ap (λ a. a ∷ acts_at (length done) (map (placed (done ++ t ∷ rest)) ds)) (act d) ∙ ap (λ l. act_of_deed d ∷ l) ih
    at false ih = ih

answers_here : (done : List TxId) (t : TxId) (rest : List TxId) (ds : List Deed) → tx_in t done ≡ false → answers_at (length done) (map (placed (done ++ t ∷ rest)) ds) ≡ map (λ x. x.answer) (items_in (deeds_of t ds))
answers_here done t rest [] out = refl
answers_here done t rest (Did x ∷ ds) out =
    ap (λ b. cond b (x.answer ∷ answers_at (length done) (map (placed (done ++ t ∷ rest)) ds)) (answers_at (length done) (map (placed (done ++ t ∷ rest)) ds))) (place_at done t x.tx rest out)
    ∙ at (tx_same x.tx t) (answers_here done t rest ds out)
  where
    at : (b : Bool) → answers_at (length done) (map (placed (done ++ t ∷ rest)) ds) ≡ map (λ x. x.answer) (items_in (deeds_of t ds))
        → cond b (x.answer ∷ answers_at (length done) (map (placed (done ++ t ∷ rest)) ds)) (answers_at (length done) (map (placed (done ++ t ∷ rest)) ds)) ≡ map (λ x. x.answer) (items_in (cond b (Did x ∷ deeds_of t ds) (deeds_of t ds)))
    at true ih = ap (λ l. x.answer ∷ l) ih
    at false ih = ih
answers_here done t rest (WentBack tx number upto ∷ ds) out = here (place (done ++ t ∷ rest) tx == length done) ∙ answers_here done t rest ds out ∙ there (tx_same tx t)
  where
    here : (b : Bool) → cond b (answers_at (length done) (map (placed (done ++ t ∷ rest)) ds)) (answers_at (length done) (map (placed (done ++ t ∷ rest)) ds)) ≡ answers_at (length done) (map (placed (done ++ t ∷ rest)) ds)
    here true = refl
    here false = refl

    there : (b : Bool) → map (λ x. x.answer) (items_in (deeds_of t ds)) ≡ map (λ x. x.answer) (items_in (cond b (WentBack tx number upto ∷ deeds_of t ds) (deeds_of t ds)))
    there true = refl
    there false = refl

-- none of a list is in another
abbrev NoneIn : List TxId → List TxId → Type 0
NoneIn done [] = Unit {0}
NoneIn done (t ∷ ts) = (tx_in t done ≡ false) × NoneIn done ts

none_more : (done : List TxId) (a : TxId) (ts : List TxId) → NoneIn done ts → tx_in a ts ≡ false → NoneIn (done ++ a ∷ []) ts
none_more done a [] n out = tt
none_more done a (t ∷ ts) n out =
    let p = none_or (tx_same t a) (tx_in a ts) out in
    (list_any-append (λ x. tx_same x t) done (a ∷ []) ∙ or_from (tx_in t done) (tx_same a t || false) n.0 (or_from (tx_same a t) false (flip_apart t a p.0) refl), none_more done a ts n.1 p.1)

len_push : (xs : List TxId) (t : TxId) → length (xs ++ t ∷ []) ≡ suc (length xs)
len_push [] t = omega arith
len_push (x ∷ xs) t = let n = len_push xs t in omega (arith, n)

-- what each place has, from some place on
each_from_is : {X : Type 0} (f : List TxId → ℕ → X) (g : TxId → X) → ((done : List TxId) (t : TxId) (rest : List TxId) → tx_in t done ≡ false → f (done ++ t ∷ rest) (length done) ≡ g t)
    → (done rest : List TxId) → NoneIn done rest → Once rest → each_from (f (done ++ rest)) (length done) (length rest) ≡ map g rest
each_from_is f g here done [] n o = refl
each_from_is f g here done (t ∷ ts) n o =
    let more : length (t ∷ ts) ≡ suc (length ts) = omega arith in
    ap (λ k. each_from (f (done ++ t ∷ ts)) (length done) k) more
    ∙ ap (λ x. x ∷ each_from (f (done ++ t ∷ ts)) (suc (length done)) (length ts)) (here done t ts n.0)
    ∙ ap (λ k. g t ∷ each_from (f (done ++ t ∷ ts)) k (length ts)) (sym (len_push done t))
    ∙ ap (λ l. g t ∷ l) (subst (λ l. each_from (f l) (length (done ++ t ∷ [])) (length ts) ≡ map g ts) (append_assoc done (t ∷ []) ts) (each_from_is f g here (done ++ t ∷ []) ts (none_more done t ts n.1 o.0) o.1))

none_in_nil : (ts : List TxId) → NoneIn [] ts
none_in_nil [] = tt
none_in_nil (t ∷ ts) = (refl, none_in_nil ts)

acts_are : (ms : List TxId) (ds : List Deed) → Once ms → each_from (λ n. acts_at n (map (placed ms) ds)) 0 (length ms) ≡ acts_by ms ds
acts_are ms ds o = each_from_is (λ l n. acts_at n (map (placed l) ds)) (λ t. map act_of_deed (deeds_of t ds)) (λ done t rest out. acts_here done t rest ds out) [] ms (none_in_nil ms) o

answers_are : (ms : List TxId) (ds : List Deed) → Once ms → each_from (λ n. answers_at n (map (placed ms) ds)) 0 (length ms) ≡ answers_by ms ds
answers_are ms ds o = each_from_is (λ l n. answers_at n (map (placed l) ds)) (λ t. map (λ x. x.answer) (items_in (deeds_of t ds))) (λ done t rest out. answers_here done t rest ds out) [] ms (none_in_nil ms) o

numbers_from : (ds : List Deed) (done rest : List TxId) → NoneIn done rest → Once rest → GoBackInOrder rest ds → (n : ℕ) → n < length rest → are_numbered 0 [] (acts_at (length done + n) (map (placed (done ++ rest)) ds)) ≡ true
numbers_from ds done [] n o b k l = absurd (omega (arith, l))
numbers_from ds done (t ∷ ts) n o b zero l = subst (λ j. are_numbered 0 [] (acts_at j (map (placed (done ++ t ∷ ts)) ds)) ≡ true) (omega arith) (subst (λ a. are_numbered 0 [] a ≡ true) (sym (acts_here done t ts ds n.0)) b.0)
numbers_from ds done (t ∷ ts) n o b (suc k) l =
    let e = len_push done t in
    subst (λ j. are_numbered 0 [] (acts_at j (map (placed (done ++ t ∷ ts)) ds)) ≡ true) (omega (arith, e))
    (subst (λ m. are_numbered 0 [] (acts_at (length (done ++ t ∷ []) + k) (map (placed m) ds)) ≡ true) (append_assoc done (t ∷ []) ts) (numbers_from ds (done ++ t ∷ []) ts (none_more done t ts n.1 o.0) o.1 b.1 k (omega (arith, l))))

numbers_are : (ms : List TxId) (ds : List Deed) → Once ms → GoBackInOrder ms ds → (n : ℕ) → n < length ms → are_numbered 0 [] (acts_at n (map (placed ms) ds)) ≡ true
numbers_are ms ds o b n l = subst (λ j. are_numbered 0 [] (acts_at j (map (placed ms) ds)) ≡ true) (omega arith) (numbers_from ds [] ms (none_in_nil ms) o b n l)

-- deeds in order are a serial run of their transactions
pub serial_of :
    (ms : List TxId) (start : KeyMap) (ds : List Deed) → Once ms → IsRising start → Acts start ds → AllLater (λ x y. Clash x y → (x.tx ≡ y.tx) ⊎ (place ms x.tx < place ms y.tx)) (items_in ds) → NobodyBetween [] ds → AllByRecursion (λ d. tx_in (doer d) ms ≡ true) ds → GoBackInOrder ms ds
    → (replay_answers start (acts_by ms ds) ≡ answers_by ms ds) × (replay_map start (acts_by ms ds) ≡ after start (held ds))
serial_of ms start ds once rises acts order between within back =
    let run = acts_are_serial_run start (map (placed ms) ds) (length ms) rises (base_placed ms start [] ds within acts) (ap keeps_order (mets_placed ms [] ds within) ∙ order_placed ms (meetings [] ds) (clear_all ms ds order between)) (below_placed ms ds within) (numbers_are ms ds once back) in (
      ap (replay_answers start) (sym (acts_are ms ds once)) ∙ run.0 ∙ answers_are ms ds once,
      ap (replay_map start) (sym (acts_are ms ds once)) ∙ run.1 ∙ ap (map_of start) (held_placed ms [] ds within) ∙ map_placed ms start (held ds),
    )
