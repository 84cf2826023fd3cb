-- The pairs that lists have, and what becomes of them where a list changes.
use Rattle.std.proofs.Common.{◌≡◌, ◌≤◌, ◌<◌, ℕ, suc, ◌+◌, Bool, true, false, cond, not, ◌&&◌, ◌||◌, List, [], ◌∷◌, length, get_or, drop, drop-cons, Some, None, refl, sym, ap, ap₂, ◌∙◌, arith}
use Rattle.std.specs.Prelude.{unwrap_or}
use Rattle.std.proofs.lemmas.Bool.{and_parts}
use Rattle.std.proofs.lemmas.List.{length-map}
use Rattle.std.proofs.lemmas.List.Filters.{length-filter_both}
use Rattle.std.proofs.lemmas.Map.Lookups.{btree_set_from_contains}
use Rattle.std.specs.List.{filter, list_any}
use Rattle.std.specs.List.Sorted.{IsStrictlySortedBy}
use Rattle.std.specs.Map.{keys_of}
use Rattle.std.specs.Ordering.{is_eq}
use Rattle.clv_base.specs.declared.names.TxId.{TxId}
use Rattle.clv_base.specs.OneShard.{add_pairs}
use Rattle.clv_base.specs.Orders.{Table, tx_cmp, tx_same, tx_in, tx_get, tx_insert, pair_cmp, pair_insert}
use Rattle.clv_base.specs.Facts.{predecessors_of}
use Rattle.clv_base.specs.Undo.{pairs_without}
use Rattle.clv_base.proofs.SameNames.{tx_true, tx_self, tx_flip, or_left, or_right}
use Rattle.protocol_laws.specs.UndoLaws.{is_pair}
use Rattle.law_base.proofs.Bools.{then_tied, none_or, and_no, and_true, flip_and, same_truth}
use Rattle.law_base.proofs.Names.{tx_in-insert}
use Rattle.law_base.proofs.Rising.{insert_key-rises, length-insert_key}
use Rattle.law_base.proofs.Sets.{Rise, same_flip, flip_apart, predecessors_rise, same_list, in_filter, filter_in}
use Rattle.tx_table.specs.Lists.{list_in, room_in}
use Rattle.cascade_undo.specs.Pairs.{AreTurned, pairs_by, pairs_in, left_by}
use Rattle.cascade_undo.proofs.Runs.{of_tx, others-set, pair_total}
use Rattle.cascade_undo.proofs.Members.{successors}
use Rattle.cascade_undo.proofs.Preceding.{predecessors_of-run}
use Rattle.cascade_undo.specs.declared.waiting.Waiting.{Waiting}
use Rattle.cascade_undo.specs.Kept.{AreKept}
use Rattle.cascade_undo.proofs.Turning.{tied_pairs, is_pair-insert, is_pair-filter, without_rises, kept_alike}
use Rattle.cascade_undo.proofs.Counting.{preds_in, preds_own, counted_alike}

-- ---- pairs that rise and are the same

pair_asked : (q : TxId × TxId) (ps : List (TxId × TxId)) → list_any (λ p. is_eq (pair_cmp q p)) ps ≡ is_pair ps q.0 q.1
pair_asked q [] = refl
pair_asked q (p ∷ ps) = ap₂ (λ a b. a || b) (then_tied (tx_cmp q.0 p.0) (tx_cmp q.1 p.1)) (pair_asked q ps)

pub same_pairs : (ps qs : List (TxId × TxId)) → IsStrictlySortedBy pair_cmp ps → IsStrictlySortedBy pair_cmp qs → ((t p : TxId) → is_pair ps t p ≡ is_pair qs t p) → ps ≡ qs
same_pairs ps qs s r same =
    btree_set_from_contains pair_total (record { keys = ps }) (record { keys = qs }) s r (λ q. pair_asked q ps ∙ same q.0 q.1 ∙ sym (pair_asked q qs))
    (λ a b e. let both = tied_pairs a b e in ap₂ (λ (x y : TxId). (x, y)) both.0 both.1)

-- ---- the pairs of lists

none_rise : IsStrictlySortedBy pair_cmp []
unfolding IsStrictlySortedBy
none_rise = tt

added_rise : (tx : TxId) (ps : List TxId) (pairs : List (TxId × TxId)) → IsStrictlySortedBy pair_cmp pairs → IsStrictlySortedBy pair_cmp (add_pairs tx ps pairs)
added_rise tx [] pairs s = s
added_rise tx (p ∷ ps) pairs s = added_rise tx ps (pair_insert (tx, p) pairs) (insert_key-rises pair_total (tx, p) pairs s)

is_pair-added : (tx : TxId) (ps : List TxId) (pairs : List (TxId × TxId)) (t p : TxId) → is_pair (add_pairs tx ps pairs) t p ≡ ((tx_same t tx && tx_in p ps) || is_pair pairs t p)
is_pair-added tx [] pairs t p = sym (ap (λ b. b || is_pair pairs t p) (and_no (tx_same t tx)))
is_pair-added tx (q ∷ qs) pairs t p =
    is_pair-added tx qs (pair_insert (tx, q) pairs) t p ∙ ap (λ b. (tx_same t tx && tx_in p qs) || b) (is_pair-insert (tx, q) pairs t p)
    ∙ ap (λ b. (tx_same t tx && tx_in p qs) || ((tx_same t tx && b) || is_pair pairs t p)) (same_flip p q)
    ∙ joined (tx_same t tx) (tx_in p qs) (tx_same q p) (is_pair pairs t p)
  where
    joined : (s a b r : Bool) → ((s && a) || ((s && b) || r)) ≡ ((s && (b || a)) || r)
    joined true true true r = refl
    joined true true false r = refl
    joined true false true r = refl
    joined true false false r = refl
    joined false a b r = refl

by_rise : (f : TxId → List TxId) (ts : List TxId) → IsStrictlySortedBy pair_cmp (pairs_by f ts)
by_rise f [] = none_rise
by_rise f (t ∷ ts) = added_rise t (f t) (pairs_by f ts) (by_rise f ts)

is_pair-by : (f : TxId → List TxId) (ts : List TxId) (t p : TxId) → is_pair (pairs_by f ts) t p ≡ (tx_in t ts && tx_in p (f t))
is_pair-by f [] t p = refl
is_pair-by f (u ∷ us) t p = is_pair-added u (f u) (pairs_by f us) t p ∙ ap (λ b. (tx_same t u && tx_in p (f u)) || b) (is_pair-by f us t p) ∙ at (tx_same t u) refl
  where
    own : (a i : Bool) → (a || (i && a)) ≡ a
    own true i = refl
    own false true = refl
    own false false = refl

    at : (b : Bool) → tx_same t u ≡ b → ((b && tx_in p (f u)) || (tx_in t us && tx_in p (f t))) ≡ ((tx_same u t || tx_in t us) && tx_in p (f t))
    at true e =
        ap (λ z. tx_in p (f z) || (tx_in t us && tx_in p (f t))) (sym (tx_true t u e)) ∙ own (tx_in p (f t)) (tx_in t us)
        ∙ sym (ap (λ b. (b || tx_in t us) && tx_in p (f t)) (tx_flip t u e))
    at false e = sym (ap (λ b. (b || tx_in t us) && tx_in p (f t)) (flip_apart t u e))

absent : {X : Type 0} (t : TxId) (rows : Table X) → tx_in t (keys_of rows) ≡ false → tx_get t rows ≡ None
absent t [] e = refl
absent t (r ∷ rs) e = let none = none_or (tx_same r.0 t) (tx_in t (keys_of rs)) e in ap (λ b. cond b (Some r.1) (tx_get t rs)) (flip_apart r.0 t none.0) ∙ absent t rs none.1

pub in_rise : (lists : Table (List TxId)) → IsStrictlySortedBy pair_cmp (pairs_in lists)
in_rise lists = by_rise (λ t. list_in t lists) (keys_of lists)

pub is_pair-in : (lists : Table (List TxId)) (t p : TxId) → is_pair (pairs_in lists) t p ≡ tx_in p (list_in t lists)
is_pair-in lists t p = is_pair-by (λ u. list_in u lists) (keys_of lists) t p ∙ at (tx_in t (keys_of lists)) refl
  where
    at : (b : Bool) → tx_in t (keys_of lists) ≡ b → (b && tx_in p (list_in t lists)) ≡ tx_in p (list_in t lists)
    at true e = refl
    at false e = sym (ap (λ o. tx_in p (unwrap_or o [])) (absent t lists e))

module _ (lists : Table (List TxId)) (t : TxId) (s : Rise (list_in t lists)) where
  -- the predecessors by them are the list
  pub listed_preds : predecessors_of (pairs_in lists) t ≡ list_in t lists
  listed_preds = same_list _ _ (predecessors_rise (pairs_in lists) t) s (λ p. preds_in (pairs_in lists) t p ∙ is_pair-in lists t p)

  pub listed_run : list_in t lists ≡ successors t (pairs_in lists)
  listed_run = sym listed_preds ∙ predecessors_of-run t (pairs_in lists) (in_rise lists)

-- ---- the lists change

module _ (lists now : Table (List TxId)) where
  pub pairs_alike : ((t : TxId) → list_in t now ≡ list_in t lists) → pairs_in now ≡ pairs_in lists
  pairs_alike same = same_pairs _ _ (in_rise now) (in_rise lists) (λ t p. is_pair-in now t p ∙ ap (tx_in p) (same t) ∙ sym (is_pair-in lists t p))

  pub pairs_more : (tx q : TxId) → ((t : TxId) → list_in t now ≡ cond (tx_same tx t) (tx_insert q (list_in t lists)) (list_in t lists)) → pairs_in now ≡ pair_insert (tx, q) (pairs_in lists)
  pairs_more tx q changed =
      same_pairs _ _ (in_rise now) (insert_key-rises pair_total (tx, q) (pairs_in lists) (in_rise lists))
      (λ t p. is_pair-in now t p ∙ ap (tx_in p) (changed t) ∙ at t p (tx_same tx t) refl ∙ sym (is_pair-insert (tx, q) (pairs_in lists) t p))
    where
      at : (t p : TxId) (b : Bool) → tx_same tx t ≡ b → tx_in p (cond b (tx_insert q (list_in t lists)) (list_in t lists)) ≡ ((tx_same t tx && tx_same p q) || is_pair (pairs_in lists) t p)
      at t p true e =
          tx_in-insert q p (list_in t lists) ∙ ap (λ b. b || tx_in p (list_in t lists)) (same_flip q p) ∙ ap (λ b. tx_same p q || b) (sym (is_pair-in lists t p))
          ∙ sym (ap (λ b. (b && tx_same p q) || is_pair (pairs_in lists) t p) (tx_flip tx t e))
      at t p false e = sym (is_pair-in lists t p) ∙ sym (ap (λ b. (b && tx_same p q) || is_pair (pairs_in lists) t p) (flip_apart tx t e))

  pub pairs_less : (tx : TxId) → ((t : TxId) → list_in t now ≡ cond (tx_same tx t) [] (list_in t lists)) → pairs_in now ≡ pairs_without (tx ∷ []) (pairs_in lists)
  pairs_less tx changed =
      same_pairs _ _ (in_rise now) (without_rise (in_rise lists))
      (λ t p. is_pair-in now t p ∙ ap (tx_in p) (changed t) ∙ at t p (tx_same tx t) ∙ sym (is_pair-filter (λ r. not (tx_in r.0 (tx ∷ []))) (pairs_in lists) t p))
    where
      without_rise : IsStrictlySortedBy pair_cmp (pairs_in lists) → IsStrictlySortedBy pair_cmp (pairs_without (tx ∷ []) (pairs_in lists))
      without_rise s = without_rises (tx ∷ []) (pairs_in lists) s

      yes : (a : Bool) → a ≡ (a && true)
      yes true = refl
      yes false = refl

      at : (t p : TxId) (b : Bool) → tx_in p (cond b [] (list_in t lists)) ≡ (is_pair (pairs_in lists) t p && not (b || false))
      at t p true = sym (and_no (is_pair (pairs_in lists) t p))
      at t p false = sym (is_pair-in lists t p) ∙ yes (is_pair (pairs_in lists) t p)

-- ---- one leaves the lists of others

filter_is : (f : TxId → Bool) (u : TxId) (xs : List TxId) → tx_in u (filter f xs) ≡ (tx_in u xs && f u)
filter_is f u xs = same_truth _ _ (λ e. let both = in_filter f u xs e in and_true (tx_in u xs) (f u) both.0 both.1)
    (λ e. let both = and_parts (tx_in u xs) (f u) e in filter_in f u xs both.0 both.1)

pub left_is : (tx : TxId) (qs : List TxId) (p t : TxId) (xs : List TxId) → tx_in t (left_by tx qs p xs) ≡ (tx_in t xs && not (tx_in p qs && tx_same t tx))
left_is tx [] p t xs = yes (tx_in t xs)
  where
    yes : (a : Bool) → a ≡ (a && true)
    yes true = refl
    yes false = refl
left_is tx (q ∷ qs) p t xs = left_is tx qs p t (cond (tx_same q p) (filter (λ x. not (tx_same x tx)) xs) xs) ∙ at (tx_same q p)
  where
    joined : (a s i : Bool) → ((a && not s) && not (i && s)) ≡ (a && not s)
    joined true true i = refl
    joined true false true = refl
    joined true false false = refl
    joined false s i = refl

    at : (b : Bool) → (tx_in t (cond b (filter (λ x. not (tx_same x tx)) xs) xs) && not (tx_in p qs && tx_same t tx)) ≡ (tx_in t xs && not ((b || tx_in p qs) && tx_same t tx))
    at true = ap (λ a. a && not (tx_in p qs && tx_same t tx)) (filter_is (λ x. not (tx_same x tx)) t xs) ∙ joined (tx_in t xs) (tx_same t tx) (tx_in p qs)
    at false = refl

module _ (lists turned after : Table (List TxId)) (tx : TxId) (turn : AreTurned (pairs_in lists) (pairs_in turned)) where
  -- without a transaction's pairs they are turned round still
  pub left_turned : ((p : TxId) → list_in p after ≡ left_by tx (list_in tx lists) p (list_in p turned)) → AreTurned (pairs_without (tx ∷ []) (pairs_in lists)) (pairs_in after)
  left_turned left t p =
      is_pair-in after p t ∙ ap (tx_in t) (left p) ∙ left_is tx (list_in tx lists) p t (list_in p turned)
      ∙ ap (λ b. b && not (tx_in p (list_in tx lists) && tx_same t tx)) (sym (is_pair-in turned p t) ∙ turn t p)
      ∙ ap (λ b. is_pair (pairs_in lists) t p && not (b && tx_same t tx)) (sym (is_pair-in lists tx p))
      ∙ ap (λ b. is_pair (pairs_in lists) t p && not (is_pair (pairs_in lists) tx p && b)) (same_flip t tx)
      ∙ at (tx_same tx t) refl
      ∙ sym (is_pair-filter (λ r. not (tx_in r.0 (tx ∷ []))) (pairs_in lists) t p)
    where
      gone : (a : Bool) → (a && not (a && true)) ≡ (a && false)
      gone true = refl
      gone false = refl

      stays : (a c : Bool) → (a && not (c && false)) ≡ (a && true)
      stays true true = refl
      stays true false = refl
      stays false c = refl

      at : (b : Bool) → tx_same tx t ≡ b → (is_pair (pairs_in lists) t p && not (is_pair (pairs_in lists) tx p && b)) ≡ (is_pair (pairs_in lists) t p && not (b || false))
      at true e = ap (λ u. is_pair (pairs_in lists) t p && not (is_pair (pairs_in lists) u p && true)) (tx_true tx t e) ∙ gone (is_pair (pairs_in lists) t p)
      at false e = stays (is_pair (pairs_in lists) t p) (is_pair (pairs_in lists) tx p)

-- ---- how many there are

-- each pair turned round
abbrev swapped : List (TxId × TxId) → List (TxId × TxId)
swapped [] = []
swapped (p ∷ ps) = pair_insert (p.1, p.0) (swapped ps)

swapped_rise : (ps : List (TxId × TxId)) → IsStrictlySortedBy pair_cmp (swapped ps)
swapped_rise [] = none_rise
swapped_rise (p ∷ ps) = insert_key-rises pair_total (p.1, p.0) (swapped ps) (swapped_rise ps)

is_pair-swapped : (ps : List (TxId × TxId)) (t p : TxId) → is_pair (swapped ps) p t ≡ is_pair ps t p
is_pair-swapped [] t p = refl
is_pair-swapped (q ∷ qs) t p =
    is_pair-insert (q.1, q.0) (swapped qs) p t ∙ ap₂ (λ a b. a || b) (flip_and (tx_same p q.1) (tx_same t q.0)) (is_pair-swapped qs t p)

swapped_few : (ps : List (TxId × TxId)) → length (swapped ps) ≤ length ps
swapped_few [] = omega arith
swapped_few (p ∷ ps) = let more = length-insert_key pair_total (p.1, p.0) (swapped ps) in let few = swapped_few ps in omega (arith, more, few)

pub turned_few : (pairs turned : List (TxId × TxId)) → AreTurned pairs turned → IsStrictlySortedBy pair_cmp turned → length turned ≤ length pairs
turned_few pairs turned turn s =
    let same = ap length (same_pairs turned (swapped pairs) s (swapped_rise pairs) (λ p t. turn t p ∙ sym (is_pair-swapped pairs t p))) in let few = swapped_few pairs in omega (arith, same, few)

-- those of one transaction and the others
pub own_and_others : (lists : Table (List TxId)) (tx : TxId) → Rise (list_in tx lists) → length (list_in tx lists) + length (pairs_without (tx ∷ []) (pairs_in lists)) ≡ length (pairs_in lists)
own_and_others lists tx s =
    let ps = pairs_in lists in let all = length-filter_both (λ (p : TxId × TxId). tx_same tx p.0) (λ (p : TxId × TxId). not (tx_same tx p.0)) (λ p. refl) ps in
    let gone = ap length (others-set tx ps) in let run = ap length (listed_run lists tx s) ∙ length-map (of_tx tx ps) (λ (q : TxId × TxId). q.1) in
    omega (arith, all, gone, run)

-- ---- one predecessor after another

module _ (preds : List TxId) (i : ℕ) (d : TxId) (l : i < length preds) where
  front : drop i preds ≡ get_or preds i d ∷ drop (i + 1) preds
  front = drop-cons preds i d l ∙ ap (λ n. get_or preds i d ∷ drop n preds) (let next : suc i ≡ i + 1 = omega arith in next)

  pub first_in : tx_in (get_or preds i d) (drop i preds) ≡ true
  first_in = ap (tx_in (get_or preds i d)) front ∙ or_left _ _ (tx_self (get_or preds i d))

  pub add_next : (tx : TxId) (pairs now : List (TxId × TxId)) → now ≡ pair_insert (tx, get_or preds i d) pairs → add_pairs tx (drop (i + 1) preds) now ≡ add_pairs tx (drop i preds) pairs
  add_next tx pairs now e = ap (add_pairs tx (drop (i + 1) preds)) e ∙ sym (ap (λ ps. add_pairs tx ps pairs) front)

  -- those that are left and aren't predecessors have places still
  pub behind_next : (tx : TxId) (pairs now : List (TxId × TxId)) → now ≡ pair_insert (tx, get_or preds i d) pairs → (before after : Table ℕ)
      → ((p : TxId) → tx_in p (drop i preds) ≡ true → tx_in p (predecessors_of pairs tx) ≡ false → 1 ≤ room_in p before)
      → ((p : TxId) → tx_same (get_or preds i d) p ≡ false → room_in p before ≤ room_in p after)
      → (p : TxId) → tx_in p (drop (i + 1) preds) ≡ true → tx_in p (predecessors_of now tx) ≡ false → 1 ≤ room_in p after
  behind_next tx pairs now e before after h more p m out =
      let x = get_or preds i d in
      let both = none_or (tx_same x p) (tx_in p (predecessors_of pairs tx))
      (sym (ap (λ ps. tx_in p (predecessors_of ps tx)) e ∙ ap (tx_in p) (preds_own tx x pairs) ∙ tx_in-insert x p (predecessors_of pairs tx)) ∙ out) in
      let was = h p (ap (tx_in p) front ∙ or_right (tx_same x p) _ m) both.1 in let left = more p both.0 in omega (arith, was, left)

-- the same lists, with places that aren't fewer and rows that are read alike
pub kept_reserved : (preds succs preds_now succs_now : Table (List TxId)) (marks marks_now : List TxId) (m q m_now q_now : ℕ) (commits : Table ℕ) (rows after : Table Waiting)
    → AreKept (pairs_in preds) (pairs_in succs) marks m q commits rows → ((t : TxId) → list_in t preds_now ≡ list_in t preds) → ((t : TxId) → list_in t succs_now ≡ list_in t succs)
    → marks_now ≡ marks → m ≤ m_now → q ≤ q_now → ((t : TxId) → tx_get t after ≡ tx_get t rows) → AreKept (pairs_in preds_now) (pairs_in succs_now) marks_now m_now q_now commits after
kept_reserved preds succs preds_now succs_now marks marks_now m q m_now q_now commits rows after h same same_turned e l k alike =
    kept_alike (pairs_in preds) (pairs_in succs) marks m q commits rows h (pairs_in preds_now) (pairs_in succs_now) marks_now m_now q_now commits after
    (pairs_alike preds preds_now same) (pairs_alike succs succs_now same_turned) e l k (counted_alike (pairs_in preds) commits commits rows after (λ t. refl) alike h.counted)

-- the list of each, where one leaves one list after another
pub left_next : (tx : TxId) (qs : List TxId) (i : ℕ) (d : TxId) → i < length qs → (p : TxId) (xs now : List TxId) → now ≡ cond (tx_same (get_or qs i d) p) (filter (λ x. not (tx_same x tx)) xs) xs
    → left_by tx (drop (i + 1) qs) p now ≡ left_by tx (drop i qs) p xs
left_next tx qs i d l p xs now e =
    let next : suc i ≡ i + 1 = omega arith in
    ap (left_by tx (drop (i + 1) qs) p) e ∙ sym (ap (λ ys. left_by tx ys p xs) (drop-cons qs i d l ∙ ap (λ n. get_or qs i d ∷ drop n qs) next))
