-- Pairs and the same pairs turned round, with more and with fewer.
use Rattle.std.proofs.Common.{◌≡◌, ℕ, ◌+◌, ◌<◌, ◌≤◌, Bool, true, false, cond, not, ◌&&◌, ◌||◌, List, [], ◌∷◌, length, refl, sym, ap, subst, ◌∙◌, arith}
use Rattle.std.proofs.lemmas.Bool.{both_ways}
use Rattle.std.proofs.lemmas.List.Kept.{IsStrictlySortedBy-filter}
use Rattle.std.specs.List.{filter}
use Rattle.std.specs.List.Sorted.{IsStrictlySortedBy}
use Rattle.std.specs.declared.cmp.Ordering.{Ordering}
use Rattle.std.specs.declared.cmp.Ordering.TheVariants.{Less, Equal, Greater}
use Rattle.std.specs.Ordering.{is_eq, ordering_then, match_ordering}
use Rattle.clv_base.specs.declared.names.TxId.{TxId}
use Rattle.clv_base.specs.Orders.{Table, tx_cmp, tx_same, tx_in, pair_cmp, pair_insert}
use Rattle.clv_base.specs.Undo.{pairs_without}
use Rattle.clv_base.proofs.SameNames.{tx_true}
use Rattle.protocol_laws.specs.UndoLaws.{is_pair}
use Rattle.cascade_undo.specs.Pairs.{AreTurned}
use Rattle.cascade_undo.specs.declared.waiting.Waiting.{Waiting}
use Rattle.cascade_undo.specs.Counts.{AreCounted}
use Rattle.cascade_undo.specs.Kept.{AreKept}
use Rattle.law_base.proofs.Rising.{insert_key-rises}
use Rattle.cascade_undo.proofs.Runs.{pair_total}
use Rattle.law_base.proofs.Bools.{flip_and as and_flip, or_swap as swap_first, or_twice as twice}
use Rattle.law_base.proofs.Tables.{row_pairs as is_row}

pub tied_pairs : (p q : TxId × TxId) → pair_cmp p q ≡ Equal → (p.0 ≡ q.0) × (p.1 ≡ q.1)
tied_pairs p q e = at (tx_cmp p.0 q.0) (tx_cmp p.1 q.1) (tx_true p.0 q.0) (tx_true p.1 q.1) e
  where
    at : (a b : Ordering) → (is_eq a ≡ true → p.0 ≡ q.0) → (is_eq b ≡ true → p.1 ≡ q.1) → ordering_then a b ≡ Equal → (p.0 ≡ q.0) × (p.1 ≡ q.1)
    at Less b f g e = absurd cc
    at Equal b f g e = (f refl, g (ap is_eq e))
    at Greater b f g e = absurd cc

pub is_pair-insert : (new : TxId × TxId) (ps : List (TxId × TxId)) (t p : TxId) → is_pair (pair_insert new ps) t p ≡ ((tx_same t new.0 && tx_same p new.1) || is_pair ps t p)
is_pair-insert new [] t p = refl
is_pair-insert new (q ∷ qs) t p = at (pair_cmp new q) refl (is_pair-insert new qs t p)
  where
    at : (o : Ordering) → pair_cmp new q ≡ o → is_pair (pair_insert new qs) t p ≡ (is_row t p new || is_pair qs t p)
        → is_pair (match_ordering o (new ∷ q ∷ qs) (q ∷ qs) (q ∷ pair_insert new qs)) t p ≡ (is_row t p new || (is_row t p q || is_pair qs t p))
    at Less e more = refl
    at Equal e more =
        let same = tied_pairs new q e in
        let row : is_row t p q ≡ is_row t p new = sym (ap (λ x. tx_same t x && tx_same p new.1) same.0 ∙ ap (λ x. tx_same t q.0 && tx_same p x) same.1) in
        ap (λ b. b || is_pair qs t p) row ∙ twice (is_row t p new) (is_pair qs t p) ∙ ap (λ b. is_row t p new || (b || is_pair qs t p)) (sym row)
    at Greater e more = ap (λ b. is_row t p q || b) more ∙ swap_first (is_row t p q) (is_row t p new) (is_pair qs t p)

turned_more : (tx pred : TxId) (pairs turned : List (TxId × TxId)) → AreTurned pairs turned → AreTurned (pair_insert (tx, pred) pairs) (pair_insert (pred, tx) turned)
turned_more tx pred pairs turned h t p =
    is_pair-insert (pred, tx) turned p t
    ∙ ap (λ b. b || is_pair turned p t) (and_flip (tx_same p pred) (tx_same t tx))
    ∙ ap (λ b. (tx_same t tx && tx_same p pred) || b) (h t p)
    ∙ sym (is_pair-insert (tx, pred) pairs t p)

-- ---- fewer

drop_row : (keep row rest keeps : Bool) → (row && keep) ≡ (row && keeps) → (b : Bool) → b ≡ (rest && keeps) → cond keep (row || b) b ≡ ((row || rest) && keeps)
drop_row true true rest true h b e = refl
drop_row true true rest false h b e = absurd (both_ways false refl (sym h))
drop_row true false rest keeps h b e = e
drop_row false true rest true h b e = absurd (both_ways false refl h)
drop_row false true rest false h b e = e ∙ none rest
  where
    none : (r : Bool) → (r && false) ≡ false
    none true = refl
    none false = refl
drop_row false false rest keeps h b e = e

-- a pair is one of those that pass where it is one and passes
pub is_pair-filter : (f : TxId × TxId → Bool) (ps : List (TxId × TxId)) (t p : TxId) → is_pair (filter f ps) t p ≡ (is_pair ps t p && f (t, p))
is_pair-filter f [] t p = refl
is_pair-filter f (q ∷ qs) t p = pushed (f q) ∙ drop_row (f q) (is_row t p q) (is_pair qs t p) (f (t, p)) (same (tx_same t q.0) (tx_same p q.1) refl refl) (is_pair (filter f qs) t p) (is_pair-filter f qs t p)
  where
    pushed : (b : Bool) → is_pair (cond b (q ∷ filter f qs) (filter f qs)) t p ≡ cond b (is_row t p q || is_pair (filter f qs) t p) (is_pair (filter f qs) t p)
    pushed true = refl
    pushed false = refl

    same : (b c : Bool) → tx_same t q.0 ≡ b → tx_same p q.1 ≡ c → ((b && c) && f q) ≡ ((b && c) && f (t, p))
    same true true e h = ap (λ x. f (x, q.1)) (sym (tx_true t q.0 e)) ∙ ap (λ x. f (t, x)) (sym (tx_true p q.1 h))
    same true false e h = refl
    same false c e h = refl

pub without_rises : (set : List TxId) (pairs : List (TxId × TxId)) → IsStrictlySortedBy pair_cmp pairs → IsStrictlySortedBy pair_cmp (pairs_without set pairs)
without_rises set pairs s = IsStrictlySortedBy-filter pair_cmp (λ p. not (tx_in p.0 set)) pairs s

-- ---- what is kept

module _ (m q : ℕ) (commits : Table ℕ) (rows : Table Waiting) (counted : AreCounted [] commits rows) where
  kept_none : 2 ≤ m → 2 ≤ q → AreKept [] [] [] m q commits rows
  unfolding IsStrictlySortedBy
  kept_none l k =
      record { pairs_rise = tt; turned_rise = tt; turned_round = λ t p. refl; marks_rise = tt; marks_room = omega arith; queue_room = omega arith; counted = counted }

  pub kept_new : (pairs turned : List (TxId × TxId)) (marks : List TxId) → pairs ≡ [] → turned ≡ [] → marks ≡ [] → 2 ≤ m → 2 ≤ q → AreKept pairs turned marks m q commits rows
  kept_new pairs turned marks e f g l k =
      subst (λ x. AreKept x turned marks m q commits rows) (sym e)
      (subst (λ x. AreKept [] x marks m q commits rows) (sym f) (subst (λ x. AreKept [] [] x m q commits rows) (sym g) (kept_none l k)))

module _ (pairs turned : List (TxId × TxId)) (marks : List TxId) (m q : ℕ) (commits : Table ℕ) (rows : Table Waiting) (h : AreKept pairs turned marks m q commits rows) (pairs_now turned_now : List (TxId × TxId)) where
  pub kept_more : (tx pred : TxId) → pairs_now ≡ pair_insert (tx, pred) pairs → turned_now ≡ pair_insert (pred, tx) turned → length turned_now + 1 < m → length turned_now + 1 < q
      → (after : Table Waiting) → AreCounted pairs_now commits after → AreKept pairs_now turned_now marks m q commits after
  kept_more tx pred e f l k after counted = record {
    pairs_rise = subst (IsStrictlySortedBy pair_cmp) (sym e) (insert_key-rises pair_total (tx, pred) pairs h.pairs_rise);
    turned_rise = subst (IsStrictlySortedBy pair_cmp) (sym f) (insert_key-rises pair_total (pred, tx) turned h.turned_rise);
    turned_round = subst (λ x. AreTurned x turned_now) (sym e) (subst (AreTurned (pair_insert (tx, pred) pairs)) (sym f) (turned_more tx pred pairs turned h.turned_round));
    marks_rise = h.marks_rise;
    marks_room = l;
    queue_room = k;
    counted = counted;
  }

-- with other COMMITs, and rows that count by them
pub kept_settled : (pairs turned : List (TxId × TxId)) (marks : List TxId) (m q : ℕ) (commits : Table ℕ) (rows : Table Waiting) → AreKept pairs turned marks m q commits rows
    → (now : Table ℕ) (after : Table Waiting) → AreCounted pairs now after → AreKept pairs turned marks m q now after
kept_settled pairs turned marks m q commits rows h now after counted = record {
  pairs_rise = h.pairs_rise;
  turned_rise = h.turned_rise;
  turned_round = h.turned_round;
  marks_rise = h.marks_rise;
  marks_room = h.marks_room;
  queue_room = h.queue_room;
  counted = counted;
}

pub none_rise : IsStrictlySortedBy tx_cmp []
unfolding IsStrictlySortedBy
none_rise = tt

-- with the same pairs and marks, places that aren't fewer, and COMMITs and rows that are read alike
pub kept_alike : (pairs turned : List (TxId × TxId)) (marks : List TxId) (m q : ℕ) (commits : Table ℕ) (rows : Table Waiting) → AreKept pairs turned marks m q commits rows
    → (pairs_now turned_now : List (TxId × TxId)) (marks_now : List TxId) (m_now q_now : ℕ) (now : Table ℕ) (after : Table Waiting) → pairs_now ≡ pairs → turned_now ≡ turned → marks_now ≡ marks
    → m ≤ m_now → q ≤ q_now → AreCounted pairs now after → AreKept pairs_now turned_now marks_now m_now q_now now after
kept_alike pairs turned marks m q commits rows h pairs_now turned_now marks_now m_now q_now now after e f g more longer counted =
    subst (λ x. AreKept x turned_now marks_now m_now q_now now after) (sym e)
    (subst (λ x. AreKept pairs x marks_now m_now q_now now after) (sym f)
    (subst (λ x. AreKept pairs turned x m_now q_now now after) (sym g)
    (record {
      pairs_rise = h.pairs_rise;
      turned_rise = h.turned_rise;
      turned_round = h.turned_round;
      marks_rise = h.marks_rise;
      marks_room = let room = h.marks_room in omega (arith, room, more);
      queue_room = let room = h.queue_room in omega (arith, room, longer);
      counted = counted;
    })))
