-- Tables by transactions, and pairs of successors and predecessors.
use Rattle.std.proofs.Common.{◌≡◌, ◌⊎◌, inl, inr, ⊎_elim, Bool, true, false, cond, not, ◌&&◌, ◌||◌, List, [], ◌∷◌, ◌++◌, map, Option, Some, None, refl, sym, ap, subst, ◌∙◌}
use Rattle.std.specs.List.{list_any}
use Rattle.std.specs.declared.cmp.Ordering.{Ordering}
use Rattle.std.specs.declared.cmp.Ordering.TheVariants.{Less, Equal, Greater}
use Rattle.std.specs.Ordering.{ordering_then, match_ordering, ordering_reverse, is_eq}
use Rattle.std.specs.List.Sorted.{IsStrictlySortedBy}
use Rattle.std.specs.Map.{keys_of}
use Rattle.std.specs.BTreeMap.{insert_entry}
use Rattle.law_base.proofs.Sets.{tx_total, AllAbove}
use Rattle.std.proofs.lemmas.Bool.{both_ways, cond_both, cond-true, or_cases, and_parts, and_from}
use Rattle.clv_base.specs.declared.names.TxId.{TxId}
use Rattle.clv_base.specs.Orders.{Table, pair_cmp, pair_insert, tx_cmp, tx_same, tx_in, tx_insert, tx_get, tx_put}
use Rattle.clv_base.specs.declared.state.Stage.{Stage}
use Rattle.clv_base.specs.declared.state.Held.{Held}
use Rattle.clv_base.specs.Undo.{pairs_without}
use Rattle.clv_base.specs.Facts.{predecessors_of}
use Rattle.clv_base.specs.OneShard.{add_pairs}
use Rattle.clv_base.proofs.SameNames.{or_left, or_right, tx_true, tx_self, tx_eq, in_insert, insert_keeps, insert_has, cmp_equal as cmp_same}

-- ---- a value at a transaction

put_case : {V : Type 0} (o : Ordering) (t u : TxId) (x : V) (r : TxId × V) (rs ts : Table V) → (o ≡ Equal → t ≡ r.0) → (o ≡ Greater → t ≡ r.0 → ⊥) → tx_get u ts ≡ cond (tx_same u t) (Some x) (tx_get u rs)
    → tx_get u (match_ordering o ((t, x) ∷ r ∷ rs) ((r.0, x) ∷ rs) (r ∷ ts)) ≡ cond (tx_same u t) (Some x) (tx_get u (r ∷ rs))
put_case Less t u x r rs ts same far ih = refl
put_case Equal t u x r rs ts same far ih =
    subst (λ j. cond (tx_same u j) (Some x) (tx_get u rs) ≡ cond (tx_same u t) (Some x) (cond (tx_same u j) (Some r.1) (tx_get u rs))) (same refl) (at (tx_same u t))
  where
    at : (b : Bool) → cond b (Some x) (tx_get u rs) ≡ cond b (Some x) (cond b (Some r.1) (tx_get u rs))
    at true = refl
    at false = refl
put_case Greater t u x r rs ts same far ih =
    ap (cond (tx_same u r.0) (Some r.1)) ih ∙ at (tx_same u r.0) (tx_same u t) (λ e f. far refl (sym (tx_true u t f) ∙ tx_true u r.0 e))
  where
    at : (b c : Bool) → (b ≡ true → c ≡ true → ⊥) → cond b (Some r.1) (cond c (Some x) (tx_get u rs)) ≡ cond c (Some x) (cond b (Some r.1) (tx_get u rs))
    at true true h = absurd (h refl refl)
    at true false h = refl
    at false true h = refl
    at false false h = refl

cmp_apart : (a b : TxId) → tx_cmp a b ≡ Greater → a ≡ b → ⊥
cmp_apart a b e s = both_ways (tx_same a b) (ap is_eq e) (tx_eq a b s)

pub get_put : {V : Type 0} (t u : TxId) (x : V) (rs : Table V) → tx_get u (tx_put t x rs) ≡ cond (tx_same u t) (Some x) (tx_get u rs)
get_put t u x [] = refl
get_put t u x (r ∷ rs) = put_case (tx_cmp t r.0) t u x r rs (tx_put t x rs) (cmp_same t r.0) (cmp_apart t r.0) (get_put t u x rs)

-- ---- rising rows put in one after another stand in their order

above_one : {V : Type 0} (p t : TxId) (v : V) (xs rest : Table V) → AllAbove p (keys_of (xs ++ (t, v) ∷ rest)) → tx_cmp t p ≡ Greater
above_one p t v [] rest a = tx_total.antisymm t p ∙ ap ordering_reverse a.0
above_one p t v (x ∷ xs) rest a = above_one p t v xs rest a.1

-- where the next one goes behind all that are in
pub put_last : {V : Type 0} (t : TxId) (v : V) (xs rest : Table V) → IsStrictlySortedBy tx_cmp (keys_of (xs ++ (t, v) ∷ rest)) → insert_entry tx_cmp xs t v ++ rest ≡ xs ++ (t, v) ∷ rest
unfolding IsStrictlySortedBy
put_last t v [] rest s = refl
put_last t v (p ∷ ps) rest s =
    ap (λ o. match_ordering o ((t, v) ∷ p ∷ ps) ((p.0, v) ∷ ps) (p ∷ insert_entry tx_cmp ps t v) ++ rest) (above_one p.0 t v ps rest s.0)
    ∙ ap (λ l. p ∷ l) (put_last t v ps rest s.1)

-- ---- stages

abbrev pub stage_by : Option Held → Option Stage
stage_by o = elim o [ Some h ↦ Some h.stage | None ↦ None ]

abbrev pub stage_in : Table Held → TxId → Option Stage
stage_in parts tx = stage_by (tx_get tx parts)

-- a part changed where a test of its name passes
pub get_changed : (test : TxId → Bool) (f : Held → Held) (u : TxId) (parts : Table Held) → tx_get u (map (λ p. (p.0, cond (test p.0) (f p.1) p.1)) parts) ≡ elim (tx_get u parts) [ Some h ↦ Some (cond (test u) (f h) h) | None ↦ None ]
get_changed test f u [] = refl
get_changed test f u (p ∷ ps) = at (tx_same u p.0) refl (get_changed test f u ps)
  where
    here : (o : Option Held) → Option Held
    here o = elim o [ Some h ↦ Some (cond (test u) (f h) h) | None ↦ None ]

    at : (b : Bool) → tx_same u p.0 ≡ b → tx_get u (map (λ p. (p.0, cond (test p.0) (f p.1) p.1)) ps) ≡ elim (tx_get u ps) [ Some h ↦ Some (cond (test u) (f h) h) | None ↦ None ]
        → cond b (Some (cond (test p.0) (f p.1) p.1)) (tx_get u (map (λ p. (p.0, cond (test p.0) (f p.1) p.1)) ps)) ≡ elim (cond b (Some p.1) (tx_get u ps)) [ Some h ↦ Some (cond (test u) (f h) h) | None ↦ None ]
    at true e ih = ap (λ t. Some (cond (test t) (f p.1) p.1)) (sym (tx_true u p.0 e))
    at false e ih = ih

-- ---- pairs

abbrev pub row_pairs : TxId → TxId → TxId × TxId → Bool
row_pairs t p q = tx_same t q.0 && tx_same p q.1

abbrev pub is_pair : List (TxId × TxId) → TxId → TxId → Bool
is_pair pairs t p = list_any (row_pairs t p) pairs

pub pair_in : (pairs : List (TxId × TxId)) (t p : TxId) → is_pair pairs t p ≡ true → tx_in p (predecessors_of pairs t) ≡ true
pair_in [] t p e = absurd (both_ways false refl e)
pair_in (q ∷ qs) t p e =
    at (tx_same t q.0) (pair_in qs t p) e
  where
    at : (b : Bool) → (is_pair qs t p ≡ true → tx_in p (predecessors_of qs t) ≡ true) → ((b && tx_same p q.1) || is_pair qs t p) ≡ true
        → tx_in p (elim b [ true ↦ tx_insert q.1 (predecessors_of qs t) | false ↦ predecessors_of qs t ]) ≡ true
    at true ih e =
        ⊎_elim
        (λ h. subst (λ x. tx_in x (tx_insert q.1 (predecessors_of qs t)) ≡ true) (sym (tx_true p q.1 h)) (insert_has q.1 (predecessors_of qs t)))
        (λ h. insert_keeps q.1 p _ (ih h))
        (or_cases (tx_same p q.1) (is_pair qs t p) e)
    at false ih e = ih e

in_case : (b : Bool) (pairs : List (TxId × TxId)) (t p : TxId) (q : TxId × TxId) → tx_same t q.0 ≡ b → (tx_in p (predecessors_of pairs t) ≡ true → is_pair pairs t p ≡ true) → tx_in p (elim b [ true ↦ tx_insert q.1 (predecessors_of pairs t) | false ↦ predecessors_of pairs t ]) ≡ true → is_pair (q ∷ pairs) t p ≡ true
in_case true pairs t p q s ih e = ⊎_elim (λ h. or_left _ _ (and_from _ _ s (tx_eq p q.1 h))) (λ h. or_right (row_pairs t p q) _ (ih h)) (in_insert q.1 p (predecessors_of pairs t) e)
in_case false pairs t p q s ih e = or_right (row_pairs t p q) _ (ih e)

pub in_pair : (pairs : List (TxId × TxId)) (t p : TxId) → tx_in p (predecessors_of pairs t) ≡ true → is_pair pairs t p ≡ true
in_pair [] t p e = absurd (both_ways false refl e)
in_pair (q ∷ qs) t p e = in_case (tx_same t q.0) qs t p q refl (in_pair qs t p) e

pub then_same : (a b : Ordering) → ordering_then a b ≡ Equal → (is_eq a ≡ true) × (is_eq b ≡ true)
then_same Less b e = absurd cc
then_same Equal b e = (refl, ap is_eq e)
then_same Greater b e = absurd cc

-- a pair that is put where it is already
same_row : (q r : TxId × TxId) (t p : TxId) → pair_cmp q r ≡ Equal → row_pairs t p q ≡ true → row_pairs t p r ≡ true
same_row q r t p e h =
    let c = then_same (tx_cmp q.0 r.0) (tx_cmp q.1 r.1) e in
    let s = and_parts (tx_same t q.0) (tx_same p q.1) h in
    and_from _ _ (subst (λ x. tx_same t x ≡ true) (tx_true q.0 r.0 c.0) s.0) (subst (λ x. tx_same p x ≡ true) (tx_true q.1 r.1 c.1) s.1)

left_case : (o : Ordering) (q r : TxId × TxId) (rs qs : List (TxId × TxId)) (t p : TxId) → (is_pair rs t p ≡ true → is_pair qs t p ≡ true) → is_pair (r ∷ rs) t p ≡ true → is_pair (match_ordering o (q ∷ r ∷ rs) (r ∷ rs) (r ∷ qs)) t p ≡ true
left_case Less q r rs qs t p more e = or_right (row_pairs t p q) _ e
left_case Equal q r rs qs t p more e = e
left_case Greater q r rs qs t p more e = ⊎_elim (λ h. or_left _ _ h) (λ h. or_right (row_pairs t p r) _ (more h)) (or_cases (row_pairs t p r) (is_pair rs t p) e)

pub insert_left : (pairs : List (TxId × TxId)) (q : TxId × TxId) (t p : TxId) → is_pair pairs t p ≡ true → is_pair (pair_insert q pairs) t p ≡ true
insert_left [] q t p e = absurd (both_ways false refl e)
insert_left (r ∷ rs) q t p e = left_case (pair_cmp q r) q r rs (pair_insert q rs) t p (insert_left rs q t p) e

right_case : (o : Ordering) (q r : TxId × TxId) (rs qs : List (TxId × TxId)) (t p : TxId) → (o ≡ Equal → row_pairs t p r ≡ true) → row_pairs t p q ≡ true → is_pair qs t p ≡ true → is_pair (match_ordering o (q ∷ r ∷ rs) (r ∷ rs) (r ∷ qs)) t p ≡ true
right_case Less q r rs qs t p same e more = or_left _ _ e
right_case Equal q r rs qs t p same e more = or_left _ _ (same refl)
right_case Greater q r rs qs t p same e more = or_right (row_pairs t p r) _ more

pub insert_right : (pairs : List (TxId × TxId)) (q : TxId × TxId) (t p : TxId) → row_pairs t p q ≡ true → is_pair (pair_insert q pairs) t p ≡ true
insert_right [] q t p e = or_left _ _ e
insert_right (r ∷ rs) q t p e = right_case (pair_cmp q r) q r rs (pair_insert q rs) t p (λ s. same_row q r t p s e) e (insert_right rs q t p e)

from_case : (o : Ordering) (q r : TxId × TxId) (rs qs : List (TxId × TxId)) (t p : TxId) → (is_pair qs t p ≡ true → (is_pair rs t p ≡ true) ⊎ (row_pairs t p q ≡ true)) → is_pair (match_ordering o (q ∷ r ∷ rs) (r ∷ rs) (r ∷ qs)) t p ≡ true → (is_pair (r ∷ rs) t p ≡ true) ⊎ (row_pairs t p q ≡ true)
from_case Less q r rs qs t p more e = ⊎_elim (λ h. inr h) (λ h. inl h) (or_cases (row_pairs t p q) (is_pair (r ∷ rs) t p) e)
from_case Equal q r rs qs t p more e = inl e
from_case Greater q r rs qs t p more e =
    ⊎_elim (λ h. inl (or_left _ _ h)) (λ h. ⊎_elim (λ i. inl (or_right (row_pairs t p r) _ i)) (λ i. inr i) (more h)) (or_cases (row_pairs t p r) (is_pair qs t p) e)

pub insert_from : (pairs : List (TxId × TxId)) (q : TxId × TxId) (t p : TxId) → is_pair (pair_insert q pairs) t p ≡ true → (is_pair pairs t p ≡ true) ⊎ (row_pairs t p q ≡ true)
insert_from [] q t p e = ⊎_elim (λ h. inr h) (λ h. inl h) (or_cases (row_pairs t p q) false e)
insert_from (r ∷ rs) q t p e = from_case (pair_cmp q r) q r rs (pair_insert q rs) t p (insert_from rs q t p) e

pub add_keeps : (tx : TxId) (ps : List TxId) (pairs : List (TxId × TxId)) (t p : TxId) → is_pair pairs t p ≡ true → is_pair (add_pairs tx ps pairs) t p ≡ true
add_keeps tx [] pairs t p e = e
add_keeps tx (q ∷ qs) pairs t p e = add_keeps tx qs (pair_insert (tx, q) pairs) t p (insert_left pairs (tx, q) t p e)

pub add_has : (tx : TxId) (ps : List TxId) (pairs : List (TxId × TxId)) (p : TxId) → tx_in p ps ≡ true → is_pair (add_pairs tx ps pairs) tx p ≡ true
add_has tx [] pairs p e = absurd (both_ways false refl e)
add_has tx (q ∷ qs) pairs p e =
    ⊎_elim
    (λ h. add_keeps tx qs (pair_insert (tx, q) pairs) tx p (insert_right pairs (tx, q) tx p (and_from _ _ (tx_self tx) (tx_eq p q (sym (tx_true q p h))))))
    (λ h. add_has tx qs (pair_insert (tx, q) pairs) p h)
    (or_cases (tx_same q p) (tx_in p qs) e)

pub add_from : (tx : TxId) (ps : List TxId) (pairs : List (TxId × TxId)) (t p : TxId) → is_pair (add_pairs tx ps pairs) t p ≡ true → (is_pair pairs t p ≡ true) ⊎ (t ≡ tx)
add_from tx [] pairs t p e = inl e
add_from tx (q ∷ qs) pairs t p e =
    ⊎_elim
    (λ h. ⊎_elim (λ j. inl j) (λ j. inr (tx_true t tx (and_parts (tx_same t tx) (tx_same p q) j).0)) (insert_from pairs (tx, q) t p h))
    (λ h. inr h)
    (add_from tx qs (pair_insert (tx, q) pairs) t p e)

without_case : (set : List TxId) (q : TxId × TxId) (qs : List (TxId × TxId)) (t p : TxId) (b : Bool) → tx_in q.0 set ≡ b → (is_pair (pairs_without set qs) t p ≡ true → (is_pair qs t p ≡ true) × (tx_in t set ≡ false))
    → is_pair (cond (not b) (q ∷ pairs_without set qs) (pairs_without set qs)) t p ≡ true → (is_pair (q ∷ qs) t p ≡ true) × (tx_in t set ≡ false)
without_case set q qs t p true s ih e = let r = ih e in (or_right (row_pairs t p q) _ r.0, r.1)
without_case set q qs t p false s ih e =
    ⊎_elim
    (λ h. (or_left _ _ h, subst (λ x. tx_in x set ≡ false) (sym (tx_true t q.0 (and_parts (tx_same t q.0) (tx_same p q.1) h).0)) s))
    (λ h. let r = ih h in (or_right (row_pairs t p q) _ r.0, r.1))
    (or_cases (row_pairs t p q) (is_pair (pairs_without set qs) t p) e)

pub without_pairs : (set : List TxId) (pairs : List (TxId × TxId)) (t p : TxId) → is_pair (pairs_without set pairs) t p ≡ true → (is_pair pairs t p ≡ true) × (tx_in t set ≡ false)
without_pairs set [] t p e = absurd (both_ways false refl e)
without_pairs set (q ∷ qs) t p e = without_case set q qs t p (tx_in q.0 set) refl (without_pairs set qs t p) e

pub pairs_stay : (set : List TxId) (pairs : List (TxId × TxId)) (t p : TxId) → tx_in t set ≡ false → is_pair pairs t p ≡ true → is_pair (pairs_without set pairs) t p ≡ true
pairs_stay set [] t p out e = e
pairs_stay set (q ∷ qs) t p out e =
    ⊎_elim
    (λ h. subst (λ l. is_pair l t p ≡ true) (sym (cond-true (not (tx_in q.0 set)) (q ∷ pairs_without set qs) (pairs_without set qs) (ap not (subst (λ x. tx_in x set ≡ false) (tx_true t q.0 (and_parts (tx_same t q.0) (tx_same p q.1) h).0) out)))) (or_left _ _ h))
    (λ h. cond_both (not (tx_in q.0 set)) (q ∷ pairs_without set qs) (pairs_without set qs) (λ l. is_pair l t p ≡ true) (λ s. or_right (row_pairs t p q) _ (pairs_stay set qs t p out h)) (λ s. pairs_stay set qs t p out h))
    (or_cases (row_pairs t p q) (is_pair qs t p) e)
