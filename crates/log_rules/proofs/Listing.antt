-- Who lists whom, after one more.
use Rattle.std.proofs.Common.{◌≡◌, ℕ, zero, suc, ◌+◌, ◌<◌, ◌≤◌, Bool, true, false, cond, ◌&&◌, ◌||◌, List, [], ◌∷◌, ◌++◌, length, get_or, Option, Some, None, ⊎_elim, refl, sym, ap, subst, ◌∙◌, length-append, arith}
use Rattle.std.specs.Prelude.{slice_get}
use Rattle.std.proofs.lemmas.Bool.{cases_lt}
use Rattle.std.proofs.lemmas.List.{get_or_append_left, length_push}
use Rattle.std.proofs.lemmas.Option.{slice_get_cases, slice_get_read, slice_get_within}
use Rattle.std.proofs.Math.Seq.{get_or-append_seam}
use Rattle.clv_base.specs.declared.names.TxId.{TxId}
use Rattle.clv_base.specs.Orders.{tx_same, tx_in}
use Rattle.clv_base.proofs.SameNames.{tx_true}
use Rattle.log_rules.specs.Listers.{Lister, Listers, lister_at, last_of, listers_from, listers_in, IsUnder, Descends, ListsOne, ListsAll}
use Rattle.law_base.proofs.Bools.{or_assoc}

-- ---- the listers so far stay

pub get_stays : {X : Type 0} (xs ys : List X) (n : ℕ) → n < length xs → slice_get (xs ++ ys) n ≡ slice_get xs n
get_stays {X} xs ys n lt =
    ⊎_elim
    (λ h. let at : get_or (xs ++ ys) n h.0 ≡ h.0 = get_or_append_left xs ys h.0 n lt ∙ h.3 in
    slice_get_read (xs ++ ys) (length (xs ++ ys)) n h.0 refl (omega (arith, length-append xs ys)) (sym at) ∙ sym h.2)
    (λ h. absurd (let none : length xs ≤ n = h.0 in omega arith))
    (slice_get_cases xs n).1

pub get_seam : {X : Type 0} (xs : List X) (y : X) (ys : List X) → slice_get (xs ++ y ∷ ys) (length xs) ≡ Some y
get_seam xs y ys = slice_get_read (xs ++ y ∷ ys) (length (xs ++ y ∷ ys)) (length xs) y refl (omega (arith, length-append xs (y ∷ ys))) (sym (get_or-append_seam xs y ys y))

abbrev Steps : List Lister → Type 0
Steps all = (n : ℕ) (l : Lister) → lister_at all (Some n) ≡ Some l → IsUnder n l.next

from_none : (all : List Lister) (n : ℕ) → listers_from all n None ≡ []
from_none all zero = refl
from_none all (suc n) = refl

by_lister : (o : Option Lister) (f g : Lister → List TxId) → ((l : Lister) → o ≡ Some l → f l ≡ g l) → ◌≡◌ {A = List TxId} (elim o [ None ↦ [] | Some l ↦ f l ]) (elim o [ None ↦ [] | Some l ↦ g l ])
by_lister None f g same = refl
by_lister (Some l) f g same = same l refl

pub from_stays : (all more : List Lister) → Steps all → (f g n : ℕ) (at : Option ℕ) → IsUnder n at → n ≤ f → n ≤ g → n ≤ length all → listers_from (all ++ more) g at ≡ listers_from all f at
from_stays all more steps f g n None under lf lg within = from_none (all ++ more) g ∙ sym (from_none all f)
from_stays all more steps zero g n (Some m) under lf lg within = absurd (omega arith)
from_stays all more steps (suc f) zero n (Some m) under lf lg within = absurd (omega arith)
from_stays all more steps (suc f) (suc g) n (Some m) under lf lg within =
    ap (λ o. elim o [ None ↦ [] | Some l ↦ l.tx ∷ listers_from (all ++ more) g l.next ]) (get_stays all more m (omega arith))
    ∙ by_lister (slice_get all m) (λ l. l.tx ∷ listers_from (all ++ more) g l.next) (λ l. l.tx ∷ listers_from all f l.next)
    (λ l is. ap (λ xs. l.tx ∷ xs) (from_stays all more steps f g m l.next (steps m l is) (omega arith) (omega arith) (omega arith)))

-- ---- one more

under_more : (n m : ℕ) (at : Option ℕ) → n ≤ m → IsUnder n at → IsUnder m at
under_more n m None le under = tt
under_more n m (Some k) le under = omega arith

-- a step from the one that is added, and from any other
added_step : (all : List Lister) (l : Lister) → Steps all → IsUnder (length all) l.next → Steps (all ++ l ∷ [])
added_step all l steps under n k is =
    let within : n < length all + 1 = omega (arith, slice_get_within (all ++ l ∷ []) n k is, length_push all l) in
    ⊎_elim
    (λ lt. steps n k (sym (get_stays all (l ∷ []) n lt) ∙ is))
    (λ le. let at : n ≡ length all = omega arith in
    let same : Some l ≡ Some k = sym (get_seam all l []) ∙ ap (slice_get (all ++ l ∷ [])) (sym at) ∙ is in
    let one : l ≡ k = cc in
    subst (λ v. IsUnder n v.next) one (subst (λ m. IsUnder m l.next) (sym at) under))
    (cases_lt n (length all))

-- the listers from the one that is added, and from any other
from_added : (all : List Lister) (l : Lister) → Steps all → IsUnder (length all) l.next → (n : ℕ) → n ≡ length all + 1 → listers_from (all ++ l ∷ []) n (Some (length all)) ≡ l.tx ∷ listers_from all (length all) l.next
from_added all l steps under zero is = absurd (omega arith)
from_added all l steps under (suc n) is =
    let at : n ≡ length all = omega arith in
    ap (λ o. elim o [ None ↦ [] | Some k ↦ k.tx ∷ listers_from (all ++ l ∷ []) n k.next ]) (get_seam all l [])
    ∙ ap (λ xs. l.tx ∷ xs) (from_stays all (l ∷ []) steps (length all) n (length all) l.next under (omega arith) (omega arith) (omega arith))

or_swap : (a b : Bool) → a || b ≡ b || a
or_swap true true = refl
or_swap true false = refl
or_swap false true = refl
or_swap false false = refl

or_nothing : (a b : Bool) → a ≡ a || (b && false)
or_nothing true true = refl
or_nothing true false = refl
or_nothing false true = refl
or_nothing false false = refl

and_one : (b : Bool) → b ≡ b && true
and_one true = refl
and_one false = refl

module _ (old new : Listers) (tx p : TxId) (d : Descends old) (one : ListsOne old new tx p) where
  longer : length new.all.items ≡ length old.all.items + 1
  longer = ap length one.all ∙ length_push old.all.items (record { tx = tx; next = last_of old p })

  starts : (q : TxId) (b : Bool) → tx_same p q ≡ b → IsUnder (length new.all.items) (last_of new q)
  starts q true e = subst (IsUnder (length new.all.items)) (sym (one.last q ∙ ap (λ c. cond c (Some (length old.all.items)) (last_of old q)) e)) (let lt : length old.all.items < length new.all.items = omega (arith, longer) in lt)
  starts q false e =
      subst (IsUnder (length new.all.items)) (sym (one.last q ∙ ap (λ c. cond c (Some (length old.all.items)) (last_of old q)) e))
      (under_more (length old.all.items) (length new.all.items) (last_of old q) (omega (arith, longer)) (d.starts q))

  who : (q t : TxId) (b : Bool) → tx_same p q ≡ b → tx_in t (listers_in new q) ≡ tx_in t (listers_in old q) || (tx_same tx t && b)
  who q t true e =
      let last : last_of new q ≡ Some (length old.all.items) = one.last q ∙ ap (λ c. cond c (Some (length old.all.items)) (last_of old q)) e in
      let place : listers_in new q ≡ listers_from (old.all.items ++ record { tx = tx; next = last_of old p } ∷ []) (length new.all.items) (Some (length old.all.items)) =
      ap (λ at. listers_from new.all.items (length new.all.items) at) last ∙ ap (λ all. listers_from all (length new.all.items) (Some (length old.all.items))) one.all in
      let from : listers_in new q ≡ tx ∷ listers_in old p =
      place ∙ from_added old.all.items (record { tx = tx; next = last_of old p }) d.steps (d.starts p) (length new.all.items) longer in
      ap (tx_in t) (from ∙ ap (λ r. tx ∷ listers_in old r) (tx_true p q e)) ∙ or_swap (tx_same tx t) (tx_in t (listers_in old q)) ∙ ap (λ c. tx_in t (listers_in old q) || c) (and_one (tx_same tx t))
  who q t false e =
      let last : last_of new q ≡ last_of old q = one.last q ∙ ap (λ c. cond c (Some (length old.all.items)) (last_of old q)) e in
      let from : listers_in new q ≡ listers_in old q =
      ap (λ at. listers_from new.all.items (length new.all.items) at) last ∙ ap (λ all. listers_from all (length new.all.items) (last_of old q)) one.all
      ∙ from_stays old.all.items (record { tx = tx; next = last_of old p } ∷ []) d.steps (length old.all.items) (length new.all.items) (length old.all.items) (last_of old q) (d.starts q) (omega arith) (omega (arith, longer)) (omega arith) in
      ap (tx_in t) from ∙ or_nothing (tx_in t (listers_in old q)) (tx_same tx t)

  pub one_descends : Descends new
  one_descends = record {
    steps = subst Steps (sym one.all) (added_step old.all.items (record { tx = tx; next = last_of old p }) d.steps (d.starts p));
    starts = λ q. starts q (tx_same p q) refl;
  }

  pub one_who : (q t : TxId) → tx_in t (listers_in new q) ≡ tx_in t (listers_in old q) || (tx_same tx t && tx_same p q)
  one_who q t = who q t (tx_same p q) refl

-- ---- all of a list

pub in_push : (q p : TxId) (ps : List TxId) → tx_in q (ps ++ p ∷ []) ≡ tx_in q ps || tx_same p q
in_push q p [] = or_swap (tx_same p q) false
in_push q p (x ∷ ps) = ap (λ b. tx_same x q || b) (in_push q p ps) ∙ sym (or_assoc (tx_same x q) (tx_in q ps) (tx_same p q))

gather : (a s b c : Bool) → (a || (s && b)) || (s && c) ≡ a || (s && (b || c))
gather true s b c = refl
gather false true b c = refl
gather false false b c = refl

pub lists_more : (old mid new : Listers) (tx p : TxId) (ps : List TxId) → ListsAll old mid tx ps → ListsOne mid new tx p → ListsAll old new tx (ps ++ p ∷ [])
lists_more old mid new tx p ps so_far one d =
    let h = so_far d in
    record {
      descends = one_descends mid new tx p h.descends one;
      who = λ q t. one_who mid new tx p h.descends one q t ∙ ap (λ b. b || (tx_same tx t && tx_same p q)) (h.who q t) ∙ gather (tx_in t (listers_in old q)) (tx_same tx t) (tx_in q ps) (tx_same p q)
          ∙ ap (λ b. tx_in t (listers_in old q) || (tx_same tx t && b)) (sym (in_push q p ps));
    }
