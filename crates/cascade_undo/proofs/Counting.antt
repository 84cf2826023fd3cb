-- Each transaction's row counts its predecessors still, with more pairs, with fewer, and where one is settled.
use Rattle.std.proofs.Common.{◌≡◌, ◌≤◌, ℕ, suc, ◌+◌, ◌-◌, ◌<◌, Bool, true, false, cond, not, ◌&&◌, ◌||◌, List, [], ◌∷◌, length, map, get_or, drop, drop-cons, Option, Some, None, is_none, max, refl, sym, ap, ap₂, subst, ◌∙◌, arith}
use Rattle.std.proofs.lemmas.Bool.{both_ways, false_from_ne_true}
use Rattle.std.proofs.lemmas.List.Filters.{length-filter_both}
use Rattle.std.specs.List.{filter}
use Rattle.std.specs.List.Sorted.{IsStrictlySortedBy}
use Rattle.std.specs.Prelude.{unwrap_or}
use Rattle.std.specs.declared.cmp.Ordering.{Ordering}
use Rattle.std.specs.declared.cmp.Ordering.TheVariants.{Less, Equal, Greater}
use Rattle.std.specs.Ordering.{is_eq, match_ordering}
use Rattle.clv_base.specs.declared.names.TxId.{TxId}
use Rattle.clv_base.specs.Orders.{Table, tx_cmp, tx_same, tx_in, tx_get, tx_insert, pair_cmp, pair_insert}
use Rattle.clv_base.specs.Facts.{predecessors_of, greater_place}
use Rattle.clv_base.specs.Undo.{pairs_without}
use Rattle.clv_base.proofs.SameNames.{tx_true, tx_self, tx_flip}
use Rattle.protocol_laws.specs.UndoLaws.{is_pair}
use Rattle.law_base.proofs.Bools.{same_truth, none_or, or_none}
use Rattle.law_base.proofs.Names.{above_not_in, preds_insert, preds_without, tx_in-insert}
use Rattle.law_base.proofs.Sets.{Rise, same_flip, flip_apart, predecessors_rise, insert_rises, same_list, filter_alike}
use Rattle.law_base.proofs.Tables.{pair_in, in_pair}
use Rattle.cascade_undo.specs.declared.waiting.Waiting.{Waiting}
use Rattle.cascade_undo.specs.Dependencies.{greatest_of}
use Rattle.cascade_undo.specs.Kept.{AreKept}
use Rattle.cascade_undo.specs.Pairs.{AreTurned}
use Rattle.cascade_undo.specs.Counts.{as_row, row_at, open_among, waiting_for, AreCounted, with_one, with_settled, settled_row, settled_through}
use Rattle.cascade_undo.proofs.Runs.{of_tx}
use Rattle.cascade_undo.proofs.Preceding.{predecessors_of-run}
use Rattle.cascade_undo.proofs.Succeeding.{in_run}
use Rattle.cascade_undo.proofs.Turning.{is_pair-insert, kept_new}

-- ---- rows, one after another

-- a row that changes where it is there
pub changed_here : {X : Type 0} (f : Option X → Option X) (tx t : TxId) (rows : Table X) (o : Option X) → o ≡ f (tx_get tx rows) → cond (tx_same tx t) o (tx_get t rows) ≡ cond (tx_same tx t) (f (tx_get t rows)) (tx_get t rows)
changed_here f tx t rows o e = at (tx_same tx t) refl
  where
    at : (b : Bool) → tx_same tx t ≡ b → cond b o (tx_get t rows) ≡ cond b (f (tx_get t rows)) (tx_get t rows)
    at true s = e ∙ ap (λ x. f (tx_get x rows)) (tx_true tx t s)
    at false s = refl

-- no row stays none
pub none_here : {X : Type 0} (f : Option X → Option X) (tx t : TxId) (rows : Table X) → f None ≡ None → tx_get tx rows ≡ None → tx_get t rows ≡ cond (tx_same tx t) (f (tx_get t rows)) (tx_get t rows)
none_here f tx t rows n e = at (tx_same tx t) refl
  where
    at : (b : Bool) → tx_same tx t ≡ b → tx_get t rows ≡ cond b (f (tx_get t rows)) (tx_get t rows)
    at true s = let none : tx_get t rows ≡ None = ap (λ x. tx_get x rows) (sym (tx_true tx t s)) ∙ e in none ∙ sym (ap f none ∙ n)
    at false s = refl

pub row_set : (b : Bool) (w : Waiting) (o : Option Waiting) → unwrap_or (cond b (Some w) o) (as_row 0 None) ≡ cond b w (unwrap_or o (as_row 0 None))
row_set true w o = refl
row_set false w o = refl

pub settled_next : (lsn : ℕ) (xs : List TxId) (i : ℕ) (d : TxId) → i < length xs → (t : TxId) (row now : Option Waiting) → now ≡ cond (tx_same (get_or xs i d) t) (settled_row lsn row) row
    → settled_through lsn (drop (i + 1) xs) t now ≡ settled_through lsn (drop i xs) t row
settled_next lsn xs i d l t row now e =
    let next : suc i ≡ i + 1 = omega arith in
    ap (settled_through lsn (drop (i + 1) xs) t) e ∙ sym (ap (λ ys. settled_through lsn ys t row) (drop-cons xs i d l ∙ ap (λ n. get_or xs i d ∷ drop n xs) next))

pub dropped_next : {X : Type 0} (set : List TxId) (i : ℕ) (d : TxId) → i < length set → (t : TxId) (row now : Option X) → now ≡ cond (tx_same (get_or set i d) t) None row
    → cond (tx_in t (drop (i + 1) set)) None now ≡ cond (tx_in t (drop i set)) None row
dropped_next set i d l t row now e =
    let next : suc i ≡ i + 1 = omega arith in
    ap (cond (tx_in t (drop (i + 1) set)) None) e ∙ joined (tx_in t (drop (i + 1) set)) (tx_same (get_or set i d) t)
    ∙ sym (ap (λ xs. cond (tx_in t xs) None row) (drop-cons set i d l ∙ ap (λ n. get_or set i d ∷ drop n set) next))
  where
    joined : (a b : Bool) → cond a None (cond b None row) ≡ cond (b || a) None row
    joined true true = refl
    joined true false = refl
    joined false true = refl
    joined false false = refl

-- ---- counts of a list

swap_places : (a b c : Option ℕ) → greater_place a (greater_place b c) ≡ greater_place b (greater_place a c)
swap_places None b c = refl
swap_places (Some a) None c = refl
swap_places (Some a) (Some b) None = ap Some (flip a b)
  where
    flip : (a b : ℕ) → max a b ≡ max b a
    flip a b = grind arith
swap_places (Some a) (Some b) (Some c) = ap Some (swap a b c)
  where
    swap : (a b c : ℕ) → max a (max b c) ≡ max b (max a c)
    swap a b c = grind arith

module _ (commits : Table ℕ) where
  open_first : (x : TxId) (xs : List TxId) → open_among commits (x ∷ xs) ≡ cond (is_none (tx_get x commits)) (suc (open_among commits xs)) (open_among commits xs)
  open_first x xs = at (is_none (tx_get x commits))
    where
      others : List TxId
      others = filter (λ p. is_none (tx_get p commits)) xs

      at : (b : Bool) → length (cond b (x ∷ others) others) ≡ cond b (suc (length others)) (length others)
      at true = refl
      at false = refl

  pub open_few : (xs : List TxId) → open_among commits xs ≤ length xs
  open_few xs = let all = length-filter_both (λ (p : TxId). is_none (tx_get p commits)) (λ (p : TxId). not (is_none (tx_get p commits))) (λ p. refl) xs in omega (arith, all)

  -- with one more
  open_more : (p : TxId) (xs : List TxId) → tx_in p xs ≡ false → open_among commits (tx_insert p xs) ≡ cond (is_none (tx_get p commits)) (suc (open_among commits xs)) (open_among commits xs)
  open_more p [] out = open_first p []
  open_more p (x ∷ xs) out = at (tx_cmp p x) refl (open_more p xs (none_or (tx_same x p) (tx_in p xs) out).1)
    where
      swapped : (a b : Bool) (n : ℕ) → cond a (suc (cond b (suc n) n)) (cond b (suc n) n) ≡ cond b (suc (cond a (suc n) n)) (cond a (suc n) n)
      swapped true true n = refl
      swapped true false n = refl
      swapped false true n = refl
      swapped false false n = refl

      at : (o : Ordering) → tx_cmp p x ≡ o → open_among commits (tx_insert p xs) ≡ cond (is_none (tx_get p commits)) (suc (open_among commits xs)) (open_among commits xs)
          → open_among commits (match_ordering o (p ∷ x ∷ xs) (x ∷ xs) (x ∷ tx_insert p xs)) ≡ cond (is_none (tx_get p commits)) (suc (open_among commits (x ∷ xs))) (open_among commits (x ∷ xs))
      at Less e more = open_first p (x ∷ xs)
      at Equal e more = absurd (both_ways _ (none_or (tx_same x p) (tx_in p xs) out).0 (tx_flip p x (ap is_eq e)))
      at Greater e more =
          open_first x (tx_insert p xs) ∙ ap (λ n. cond (is_none (tx_get x commits)) (suc n) n) more ∙ swapped (is_none (tx_get x commits)) (is_none (tx_get p commits)) (open_among commits xs)
          ∙ ap (λ n. cond (is_none (tx_get p commits)) (suc n) n) (sym (open_first x xs))

  greatest_more : (p : TxId) (xs : List TxId) → tx_in p xs ≡ false → greatest_of commits (tx_insert p xs) ≡ greater_place (tx_get p commits) (greatest_of commits xs)
  greatest_more p [] out = refl
  greatest_more p (x ∷ xs) out = at (tx_cmp p x) refl (greatest_more p xs (none_or (tx_same x p) (tx_in p xs) out).1)
    where
      at : (o : Ordering) → tx_cmp p x ≡ o → greatest_of commits (tx_insert p xs) ≡ greater_place (tx_get p commits) (greatest_of commits xs)
          → greatest_of commits (match_ordering o (p ∷ x ∷ xs) (x ∷ xs) (x ∷ tx_insert p xs)) ≡ greater_place (tx_get p commits) (greatest_of commits (x ∷ xs))
      at Less e more = refl
      at Equal e more = absurd (both_ways _ (none_or (tx_same x p) (tx_in p xs) out).0 (tx_flip p x (ap is_eq e)))
      at Greater e more = ap (greater_place (tx_get x commits)) more ∙ swap_places (tx_get x commits) (tx_get p commits) (greatest_of commits xs)

  waiting_more : (p : TxId) (xs : List TxId) → tx_in p xs ≡ false → waiting_for commits (tx_insert p xs) ≡ with_one (tx_get p commits) (waiting_for commits xs)
  waiting_more p xs out = ap₂ as_row (open_more p xs out) (greatest_more p xs out) ∙ split (tx_get p commits) (open_among commits xs) (greatest_of commits xs)
    where
      split : (o : Option ℕ) (n : ℕ) (g : Option ℕ) → as_row (cond (is_none o) (suc n) n) (greater_place o g) ≡ with_one o (as_row n g)
      split None n g = let next : suc n ≡ n + 1 = omega arith in ap (λ m. as_row m g) next
      split (Some lsn) n g = refl

-- the same COMMITs in another order
module _ (commits now : Table ℕ) (same : (t : TxId) → tx_get t now ≡ tx_get t commits) where
  greatest_alike : (xs : List TxId) → greatest_of now xs ≡ greatest_of commits xs
  greatest_alike [] = refl
  greatest_alike (x ∷ xs) = ap₂ greater_place (same x) (greatest_alike xs)

  waiting_alike : (xs : List TxId) → waiting_for now xs ≡ waiting_for commits xs
  waiting_alike xs =
      ap₂ as_row (ap length (filter_alike (λ p. is_none (tx_get p now)) (λ p. is_none (tx_get p commits)) xs (λ x. ap is_none (same x)))) (greatest_alike xs)

-- one that had no COMMIT is settled
module _ (commits now : Table ℕ) (pred : TxId) (lsn : ℕ) (set : (t : TxId) → tx_get t now ≡ cond (tx_same pred t) (Some lsn) (tx_get t commits)) (fresh : tx_get pred commits ≡ None) where
  other : (x : TxId) → tx_same x pred ≡ false → tx_get x now ≡ tx_get x commits
  other x e = set x ∙ ap (λ c. cond c (Some lsn) (tx_get x commits)) (flip_apart x pred e)

  own : (x : TxId) → tx_same x pred ≡ true → tx_get x now ≡ Some lsn
  own x e = set x ∙ ap (λ c. cond c (Some lsn) (tx_get x commits)) (tx_flip x pred e)

  was : (x : TxId) → tx_same x pred ≡ true → tx_get x commits ≡ None
  was x e = ap (λ z. tx_get z commits) (tx_true x pred e) ∙ fresh

  nowhere_later : (x : TxId) (xs : List TxId) → tx_same x pred ≡ true → Rise (x ∷ xs) → tx_in pred xs ≡ false
  unfolding IsStrictlySortedBy
  nowhere_later x xs e s = ap (λ z. tx_in z xs) (sym (tx_true x pred e)) ∙ above_not_in x xs s.0

  open_settled : (xs : List TxId) → Rise xs → cond (tx_in pred xs) (suc (open_among now xs)) (open_among now xs) ≡ open_among commits xs
  unfolding IsStrictlySortedBy
  open_settled [] s = refl
  open_settled (x ∷ xs) s = at (tx_same x pred) refl (open_settled xs s.1)
    where
      both : (b i : Bool) (m n : ℕ) → cond i (suc m) m ≡ n → cond i (suc (cond b (suc m) m)) (cond b (suc m) m) ≡ cond b (suc n) n
      both true true m n e = ap suc e
      both true false m n e = ap suc e
      both false true m n e = e
      both false false m n e = e

      at : (b : Bool) → tx_same x pred ≡ b → cond (tx_in pred xs) (suc (open_among now xs)) (open_among now xs) ≡ open_among commits xs
          → cond (b || tx_in pred xs) (suc (open_among now (x ∷ xs))) (open_among now (x ∷ xs)) ≡ open_among commits (x ∷ xs)
      at true e more =
          let rest : open_among now xs ≡ open_among commits xs = sym (ap (λ c. cond c (suc (open_among now xs)) (open_among now xs)) (nowhere_later x xs e s)) ∙ more in
          ap suc (open_first now x xs ∙ ap (λ o. cond (is_none o) (suc (open_among now xs)) (open_among now xs)) (own x e) ∙ rest)
          ∙ sym (open_first commits x xs ∙ ap (λ o. cond (is_none o) (suc (open_among commits xs)) (open_among commits xs)) (was x e))
      at false e more =
          ap (λ n. cond (tx_in pred xs) (suc n) n) (open_first now x xs ∙ ap (λ o. cond (is_none o) (suc (open_among now xs)) (open_among now xs)) (other x e))
          ∙ both (is_none (tx_get x commits)) (tx_in pred xs) (open_among now xs) (open_among commits xs) more ∙ sym (open_first commits x xs)

  greatest_settled : (xs : List TxId) → Rise xs → greatest_of now xs ≡ cond (tx_in pred xs) (greater_place (Some lsn) (greatest_of commits xs)) (greatest_of commits xs)
  unfolding IsStrictlySortedBy
  greatest_settled [] s = refl
  greatest_settled (x ∷ xs) s = at (tx_same x pred) refl (greatest_settled xs s.1)
    where
      g : Option ℕ
      g = greatest_of commits xs

      into : (i : Bool) → greater_place (tx_get x commits) (cond i (greater_place (Some lsn) g) g) ≡ cond i (greater_place (Some lsn) (greater_place (tx_get x commits) g)) (greater_place (tx_get x commits) g)
      into true = swap_places (tx_get x commits) (Some lsn) g
      into false = refl

      at : (b : Bool) → tx_same x pred ≡ b → greatest_of now xs ≡ cond (tx_in pred xs) (greater_place (Some lsn) g) g
          → greatest_of now (x ∷ xs) ≡ cond (b || tx_in pred xs) (greater_place (Some lsn) (greatest_of commits (x ∷ xs))) (greatest_of commits (x ∷ xs))
      at true e more =
          let rest : greatest_of now xs ≡ g = more ∙ ap (λ c. cond c (greater_place (Some lsn) g) g) (nowhere_later x xs e s) in
          ap₂ greater_place (own x e) rest ∙ ap (λ o. greater_place (Some lsn) (greater_place o g)) (sym (was x e))
      at false e more = ap₂ greater_place (other x e) more ∙ into (tx_in pred xs)

  waiting_settled : (xs : List TxId) → Rise xs → (i : Bool) → tx_in pred xs ≡ i → waiting_for now xs ≡ cond i (with_settled lsn (waiting_for commits xs)) (waiting_for commits xs)
  waiting_settled xs s true i =
      let one : suc (open_among now xs) ≡ open_among commits xs = sym (ap (λ c. cond c (suc (open_among now xs)) (open_among now xs)) i) ∙ open_settled xs s in
      let less : open_among now xs ≡ open_among commits xs - 1 = omega (arith, one) in
      ap₂ as_row less (greatest_settled xs s ∙ ap (λ c. cond c (greater_place (Some lsn) (greatest_of commits xs)) (greatest_of commits xs)) i)
  waiting_settled xs s false i =
      ap₂ as_row (sym (ap (λ c. cond c (suc (open_among now xs)) (open_among now xs)) i) ∙ open_settled xs s)
      (greatest_settled xs s ∙ ap (λ c. cond c (greater_place (Some lsn) (greatest_of commits xs)) (greatest_of commits xs)) i)

-- ---- predecessors, of more pairs and of fewer

pub preds_in : (pairs : List (TxId × TxId)) (t p : TxId) → tx_in p (predecessors_of pairs t) ≡ is_pair pairs t p
preds_in pairs t p = same_truth _ _ (in_pair pairs t p) (pair_in pairs t p)

pub preds_own : (tx q : TxId) (pairs : List (TxId × TxId)) → predecessors_of (pair_insert (tx, q) pairs) tx ≡ tx_insert q (predecessors_of pairs tx)
preds_own tx q pairs =
    same_list (predecessors_of (pair_insert (tx, q) pairs) tx) (tx_insert q (predecessors_of pairs tx)) (predecessors_rise (pair_insert (tx, q) pairs) tx) (insert_rises q (predecessors_of pairs tx) (predecessors_rise pairs tx))
    (λ t. preds_in (pair_insert (tx, q) pairs) tx t ∙ is_pair-insert (tx, q) pairs tx t ∙ ap (λ b. (b && tx_same t q) || is_pair pairs tx t) (tx_self tx)
    ∙ ap (λ b. b || is_pair pairs tx t) (same_flip t q) ∙ ap (λ b. tx_same q t || b) (sym (preds_in pairs tx t)) ∙ sym (tx_in-insert q t (predecessors_of pairs tx)))

pub preds_gone : (set : List TxId) (t : TxId) (pairs : List (TxId × TxId)) → tx_in t set ≡ true → predecessors_of (pairs_without set pairs) t ≡ []
preds_gone set t [] i = refl
preds_gone set t (p ∷ ps) i = at (tx_in p.0 set) refl (preds_gone set t ps i)
  where
    at : (b : Bool) → tx_in p.0 set ≡ b → predecessors_of (pairs_without set ps) t ≡ [] → predecessors_of (cond (not b) (p ∷ pairs_without set ps) (pairs_without set ps)) t ≡ []
    at true e more = more
    at false e more =
        let apart : tx_same t p.0 ≡ false = false_from_ne_true _ (λ s. both_ways _ e (subst (λ z. tx_in z set ≡ true) (tx_true t p.0 s) i)) in
        ap (λ b. elim b [ true ↦ tx_insert p.1 (predecessors_of (pairs_without set ps) t) | false ↦ predecessors_of (pairs_without set ps) t ]) apart ∙ more

-- ---- the rows count still

pub kept_first : (m q : ℕ) (commits : Table ℕ) (rows : Table Waiting) (pairs turned : List (TxId × TxId)) (marks : List TxId) → ((t : TxId) → tx_get t rows ≡ None) → pairs ≡ [] → turned ≡ [] → marks ≡ [] → 2 ≤ m → 2 ≤ q
    → AreKept pairs turned marks m q commits rows
kept_first m q commits rows pairs turned marks none = kept_new m q commits rows (λ t. ap (λ o. unwrap_or o (as_row 0 None)) (none t)) pairs turned marks

pub counted_alike : (pairs : List (TxId × TxId)) (commits now : Table ℕ) (rows after : Table Waiting) → ((t : TxId) → tx_get t now ≡ tx_get t commits) → ((t : TxId) → tx_get t after ≡ tx_get t rows)
    → AreCounted pairs commits rows → AreCounted pairs now after
counted_alike pairs commits now rows after same alike h t = ap (λ o. unwrap_or o (as_row 0 None)) (alike t) ∙ h t ∙ sym (waiting_alike commits now same (predecessors_of pairs t))

pub counted_few : (pairs : List (TxId × TxId)) (commits : Table ℕ) (rows : Table Waiting) (t : TxId) → AreCounted pairs commits rows → (row_at t rows).undecided ≤ length (predecessors_of pairs t)
counted_few pairs commits rows t h =
    let own : (row_at t rows).undecided ≡ open_among commits (predecessors_of pairs t) = ap (λ (w : Waiting). w.undecided) (h t) in
    let some = open_few commits (predecessors_of pairs t) in omega (arith, own, some)

module _ (pairs : List (TxId × TxId)) (commits : Table ℕ) (rows after : Table Waiting) (h : AreCounted pairs commits rows) where
  -- with a new pair
  pub counted_more : (tx pred : TxId) → tx_in pred (predecessors_of pairs tx) ≡ false
      → ((t : TxId) → row_at t after ≡ cond (tx_same tx t) (with_one (tx_get pred commits) (row_at tx rows)) (row_at t rows)) → AreCounted (pair_insert (tx, pred) pairs) commits after
  counted_more tx pred out now t = now t ∙ at (tx_same tx t) refl
    where
      at : (b : Bool) → tx_same tx t ≡ b → cond b (with_one (tx_get pred commits) (row_at tx rows)) (row_at t rows) ≡ waiting_for commits (predecessors_of (pair_insert (tx, pred) pairs) t)
      at true e =
          ap (with_one (tx_get pred commits)) (h tx) ∙ sym (waiting_more commits pred (predecessors_of pairs tx) out) ∙ ap (waiting_for commits) (sym (preds_own tx pred pairs))
          ∙ ap (λ z. waiting_for commits (predecessors_of (pair_insert (tx, pred) pairs) z)) (tx_true tx t e)
      at false e = h t ∙ sym (ap (waiting_for commits) (preds_insert t tx pred pairs (flip_apart tx t e)))

  pub counted_without : (set : List TxId) → ((t : TxId) → tx_get t after ≡ cond (tx_in t set) None (tx_get t rows)) → AreCounted (pairs_without set pairs) commits after
  counted_without set now t = ap (λ o. unwrap_or o (as_row 0 None)) (now t) ∙ at (tx_in t set) refl
    where
      at : (b : Bool) → tx_in t set ≡ b → unwrap_or (cond b None (tx_get t rows)) (as_row 0 None) ≡ waiting_for commits (predecessors_of (pairs_without set pairs) t)
      at true i = sym (ap (waiting_for commits) (preds_gone set t pairs i))
      at false i = h t ∙ sym (ap (waiting_for commits) (preds_without set t pairs i))

  pub counted_without_one : (tx : TxId) → ((t : TxId) → tx_get t after ≡ cond (tx_same tx t) None (tx_get t rows)) → AreCounted (pairs_without (tx ∷ []) pairs) commits after
  counted_without_one tx now = counted_without (tx ∷ []) (λ t. now t ∙ ap (λ b. cond b None (tx_get t rows)) (sym (or_none (tx_same tx t))))

-- each row of a list that rises is settled once
settled_once : (lsn : ℕ) (xs : List TxId) (t : TxId) (row : Option Waiting) → Rise xs → settled_through lsn xs t row ≡ cond (tx_in t xs) (settled_row lsn row) row
unfolding IsStrictlySortedBy
settled_once lsn [] t row s = refl
settled_once lsn (x ∷ xs) t row s = at (tx_same x t) refl (above_not_in x xs s.0) (λ r. settled_once lsn xs t r s.1)
  where
    at : (b : Bool) → tx_same x t ≡ b → tx_in x xs ≡ false → ((r : Option Waiting) → settled_through lsn xs t r ≡ cond (tx_in t xs) (settled_row lsn r) r)
        → settled_through lsn xs t (cond b (settled_row lsn row) row) ≡ cond (b || tx_in t xs) (settled_row lsn row) row
    at true e out once =
        once (settled_row lsn row) ∙ ap (λ c. cond c (settled_row lsn (settled_row lsn row)) (settled_row lsn row)) (ap (λ z. tx_in z xs) (sym (tx_true x t e)) ∙ out)
    at false e out once = once row

module _ (pairs turned : List (TxId × TxId)) (turn : AreTurned pairs turned) (s : IsStrictlySortedBy pair_cmp turned) (commits now : Table ℕ) (rows after : Table Waiting) (h : AreCounted pairs commits rows) where
  -- where one is settled, and its successors' rows are told
  pub counted_settled : (pred : TxId) (lsn : ℕ) → ((t : TxId) → tx_get t now ≡ cond (tx_same pred t) (Some lsn) (tx_get t commits)) → tx_get pred commits ≡ None
      → ((t : TxId) → tx_get t after ≡ settled_through lsn (map (λ p. p.1) (of_tx pred turned)) t (tx_get t rows)) → AreCounted pairs now after
  counted_settled pred lsn set fresh told t =
      ap (λ o. unwrap_or o (as_row 0 None)) (told t ∙ settled_once lsn succs t (tx_get t rows) rising ∙ ap (λ b. cond b (settled_row lsn (tx_get t rows)) (tx_get t rows)) known)
      ∙ at (tx_in pred preds) refl
    where
      succs : List TxId
      succs = map (λ p. p.1) (of_tx pred turned)

      preds : List TxId
      preds = predecessors_of pairs t

      rising : Rise succs
      rising = subst Rise (predecessors_of-run pred turned s) (predecessors_rise turned pred)

      known : tx_in t succs ≡ tx_in pred preds
      known = in_run pred t turned ∙ turn t pred ∙ sym (preds_in pairs t pred)

      one_less : (row : Option Waiting) (w : Waiting) (n : ℕ) → unwrap_or row (as_row 0 None) ≡ w → suc n ≡ w.undecided → unwrap_or (settled_row lsn row) (as_row 0 None) ≡ with_settled lsn w
      one_less (Some v) w n e o = ap (with_settled lsn) e
      one_less None w n e o = let none : 0 ≡ w.undecided = ap (λ (v : Waiting). v.undecided) e in absurd (omega (arith, none, o))

      at : (b : Bool) → tx_in pred preds ≡ b → unwrap_or (cond b (settled_row lsn (tx_get t rows)) (tx_get t rows)) (as_row 0 None) ≡ waiting_for now preds
      at true i =
          let one : suc (open_among now preds) ≡ open_among commits preds = sym (ap (λ c. cond c (suc (open_among now preds)) (open_among now preds)) i) ∙ open_settled commits now pred lsn set fresh preds (predecessors_rise pairs t) in
          one_less (tx_get t rows) (waiting_for commits preds) (open_among now preds) (h t) one
          ∙ sym (waiting_settled commits now pred lsn set fresh preds (predecessors_rise pairs t) true i)
      at false i = h t ∙ sym (waiting_settled commits now pred lsn set fresh preds (predecessors_rise pairs t) false i)
