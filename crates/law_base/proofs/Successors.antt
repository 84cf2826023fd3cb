-- The set that goes with an aborted transaction holds each successor of each of its members, and what passes to successors holds of all of it.
use Rattle.std.proofs.Common.{◌≡◌, ℕ, zero, suc, ◌+◌, ◌≤◌, ◌<◌, ◌⊎◌, inl, inr, ⊎_elim, Bool, true, false, cond, List, [], ◌∷◌, length, refl, sym, subst, arith}
use Rattle.std.proofs.lemmas.Bool.{cases_Bool, both_ways, cond_both, cond-true, or_cases, and_parts, and_from}
use Rattle.clv_base.specs.declared.names.TxId.{TxId}
use Rattle.clv_base.specs.Orders.{tx_same, tx_in, tx_insert}
use Rattle.clv_base.specs.State.{Local}
use Rattle.clv_base.specs.Undo.{with_successors, successors_through, doomed_by}
use Rattle.clv_base.proofs.SameNames.{or_left, or_right, tx_true, tx_self, in_insert, insert_keeps, insert_has}
use Rattle.law_base.proofs.Tables.{is_pair, row_pairs}

abbrev Within : List TxId → List TxId → Type 0
Within xs ys = (u : TxId) → tx_in u xs ≡ true → tx_in u ys ≡ true

-- the set holds each successor of each of its members
abbrev pub Upwards : List (TxId × TxId) → List TxId → Type 0
Upwards pairs set = (t p : TxId) → is_pair pairs t p ≡ true → tx_in p set ≡ true → tx_in t set ≡ true

-- ---- one round

pub round_keeps : (ps : List (TxId × TxId)) (set so_far : List TxId) (u : TxId) → tx_in u so_far ≡ true → tx_in u (with_successors ps set so_far) ≡ true
round_keeps [] set so_far u e = e
round_keeps (p ∷ ps) set so_far u e = round_keeps ps set _ u (cond_both (tx_in p.1 set) (tx_insert p.0 so_far) so_far (λ l. tx_in u l ≡ true) (λ t. insert_keeps p.0 u so_far e) (λ t. e))

round_has : (ps : List (TxId × TxId)) (set so_far : List TxId) (t p : TxId) → is_pair ps t p ≡ true → tx_in p set ≡ true → tx_in t (with_successors ps set so_far) ≡ true
round_has [] set so_far t p e i = absurd (both_ways false refl e)
round_has (q ∷ qs) set so_far t p e i =
    ⊎_elim
    (λ h. let s = and_parts (tx_same t q.0) (tx_same p q.1) h in
    round_keeps qs set _ t (subst (λ l. tx_in t l ≡ true) (sym (cond-true (tx_in q.1 set) (tx_insert q.0 so_far) so_far (subst (λ x. tx_in x set ≡ true) (tx_true p q.1 s.1) i)))
    (subst (λ x. tx_in x (tx_insert q.0 so_far) ≡ true) (sym (tx_true t q.0 s.0)) (insert_has q.0 so_far))))
    (λ h. round_has qs set _ t p h i)
    (or_cases (row_pairs t p q) (is_pair qs t p) e)

pub with_from : (P : TxId → Type 0) (pairs : List (TxId × TxId)) (set so_far : List TxId) → ((a b : TxId) → is_pair pairs a b ≡ true → tx_in b set ≡ true → P a) → ((t : TxId) → tx_in t so_far ≡ true → P t) → (t : TxId) → tx_in t (with_successors pairs set so_far) ≡ true → P t
with_from P [] set so_far d l t i = l t i
with_from P (p ∷ ps) set so_far d l t i = with_from P ps set (cond (tx_in p.1 set) (tx_insert p.0 so_far) so_far) (λ a b j. d a b (or_right (row_pairs a b p) (is_pair ps a b) j)) (λ u j. at (tx_in p.1 set) refl u j) t i
  where
    at : (b : Bool) → tx_in p.1 set ≡ b → (u : TxId) → tx_in u (cond b (tx_insert p.0 so_far) so_far) ≡ true → P u
    at true e u j =
        ⊎_elim (λ q. subst P (sym q) (d p.0 p.1 (or_left (row_pairs p.0 p.1 p) (is_pair ps p.0 p.1) (and_from (tx_same p.0 p.0) (tx_same p.1 p.1) (tx_self p.0) (tx_self p.1))) e)) (λ q. l u q) (in_insert p.0 u so_far j)
    at false e u j = l u j

-- ---- how many pairs have their successor outside

missing : List (TxId × TxId) → List TxId → ℕ
missing [] set = 0
missing (q ∷ qs) set = cond (tx_in q.0 set) 0 1 + missing qs set

missing_most : (qs : List (TxId × TxId)) (set : List TxId) → missing qs set ≤ length qs
unfolding missing
missing_most [] set = omega arith
missing_most (q ∷ qs) set = at (tx_in q.0 set) (missing_most qs set)
  where
    at : (b : Bool) → missing qs set ≤ length qs → cond b 0 1 + missing qs set ≤ length (q ∷ qs)
    at true h = omega arith
    at false h = omega arith

missing_less : (qs : List (TxId × TxId)) (xs ys : List TxId) → Within xs ys → missing qs ys ≤ missing qs xs
unfolding missing
missing_less [] xs ys w = omega arith
missing_less (q ∷ qs) xs ys w = at (tx_in q.0 xs) (tx_in q.0 ys) (w q.0) (missing_less qs xs ys w)
  where
    at : (b c : Bool) → (b ≡ true → c ≡ true) → missing qs ys ≤ missing qs xs → cond c 0 1 + missing qs ys ≤ cond b 0 1 + missing qs xs
    at true true h l = omega arith
    at true false h l = absurd (both_ways false refl (h refl))
    at false true h l = omega arith
    at false false h l = omega arith

missing_strict : (qs : List (TxId × TxId)) (xs ys : List TxId) (t p : TxId) → Within xs ys → is_pair qs t p ≡ true → tx_in t xs ≡ false → tx_in t ys ≡ true → missing qs ys < missing qs xs
unfolding missing
missing_strict [] xs ys t p w e out i = absurd (both_ways false refl e)
missing_strict (q ∷ qs) xs ys t p w e out i =
    ⊎_elim
    (λ h. let same : t ≡ q.0 = tx_true t q.0 (and_parts (tx_same t q.0) (tx_same p q.1) h).0 in
    here (tx_in q.0 xs) (tx_in q.0 ys) (subst (λ x. tx_in x xs ≡ false) same out) (subst (λ x. tx_in x ys ≡ true) same i) (missing_less qs xs ys w))
    (λ h. later (tx_in q.0 xs) (tx_in q.0 ys) (w q.0) (missing_strict qs xs ys t p w h out i))
    (or_cases (row_pairs t p q) (is_pair qs t p) e)
  where
    here : (b c : Bool) → b ≡ false → c ≡ true → missing qs ys ≤ missing qs xs → cond c 0 1 + missing qs ys < cond b 0 1 + missing qs xs
    here true c e f l = absurd (both_ways true e refl)
    here false true e f l = omega arith
    here false false e f l = absurd (both_ways false refl f)

    later : (b c : Bool) → (b ≡ true → c ≡ true) → missing qs ys < missing qs xs → cond c 0 1 + missing qs ys < cond b 0 1 + missing qs xs
    later true true h l = omega arith
    later true false h l = absurd (both_ways false refl (h refl))
    later false true h l = omega arith
    later false false h l = omega arith

-- a pair that leads out, if there is one
Out : List (TxId × TxId) → List TxId → Type 0
Out qs set = (t : TxId) × (p : TxId) × (is_pair qs t p ≡ true) × (tx_in p set ≡ true) × (tx_in t set ≡ false)

look : (qs : List (TxId × TxId)) (set : List TxId) → Upwards qs set ⊎ Out qs set
unfolding Out
look [] set = inl (λ t p e i. absurd (both_ways false refl e))
look (q ∷ qs) set =
    ⊎_elim
    (λ up. ⊎_elim
    (λ i. ⊎_elim
    (λ j. inl (λ t p e h. ⊎_elim (λ s. subst (λ x. tx_in x set ≡ true) (sym (tx_true t q.0 (and_parts (tx_same t q.0) (tx_same p q.1) s).0)) j) (λ s. up t p s h) (or_cases (row_pairs t p q) (is_pair qs t p) e)))
    (λ j. inr (q.0, q.1, or_left _ _ (and_from _ _ (tx_self q.0) (tx_self q.1)), i, j))
    (cases_Bool (tx_in q.0 set)))
    (λ i. inl (λ t p e h. ⊎_elim (λ s. absurd (both_ways _ i (subst (λ x. tx_in x set ≡ true) (tx_true p q.1 (and_parts (tx_same t q.0) (tx_same p q.1) s).1) h))) (λ s. up t p s h) (or_cases (row_pairs t p q) (is_pair qs t p) e)))
    (cases_Bool (tx_in q.1 set)))
    (λ o. inr (o.0, o.1, or_right (row_pairs o.0 o.1 q) _ o.2, o.3, o.4))
    (look qs set)

-- ---- all rounds

up_round : (pairs : List (TxId × TxId)) (set : List TxId) → Upwards pairs set → Upwards pairs (with_successors pairs set set)
up_round pairs set up t p e i = round_keeps pairs set set t (up t p e (with_from (λ u. tx_in u set ≡ true) pairs set set up (λ u j. j) p i))

up_stays : (n : ℕ) (pairs : List (TxId × TxId)) (set : List TxId) → Upwards pairs set → Upwards pairs (successors_through n pairs set)
up_stays zero pairs set up = up
up_stays (suc n) pairs set up = up_stays n pairs (with_successors pairs set set) (up_round pairs set up)

none_missing : (qs : List (TxId × TxId)) (set : List TxId) (t p : TxId) → missing qs set ≤ 0 → is_pair qs t p ≡ true → tx_in t set ≡ true
unfolding missing
none_missing [] set t p le e = absurd (both_ways false refl e)
none_missing (q ∷ qs) set t p le e =
    ⊎_elim
    (λ h. subst (λ x. tx_in x set ≡ true) (sym (tx_true t q.0 (and_parts (tx_same t q.0) (tx_same p q.1) h).0)) (at (tx_in q.0 set) le))
    (λ h. none_missing qs set t p (omega arith) h)
    (or_cases (row_pairs t p q) (is_pair qs t p) e)
  where
    at : (b : Bool) → cond b 0 1 + missing qs set ≤ 0 → b ≡ true
    at true l = refl
    at false l = absurd (omega arith)

up_through : (n : ℕ) (pairs : List (TxId × TxId)) (set : List TxId) → missing pairs set ≤ n → Upwards pairs (successors_through n pairs set)
unfolding Out
up_through zero pairs set le = λ t p e i. none_missing pairs set t p le e
up_through (suc n) pairs set le =
    ⊎_elim
    (λ up. up_stays n pairs (with_successors pairs set set) (up_round pairs set up))
    (λ o. let less = missing_strict pairs set (with_successors pairs set set) o.0 o.1 (λ u i. round_keeps pairs set set u i) o.2 o.4 (round_has pairs set set o.0 o.1 o.2 o.3) in
    up_through n pairs (with_successors pairs set set) (omega arith))
    (look pairs set)

pub doomed_up : (l : Local) (tx : TxId) → Upwards l.pairs (doomed_by l tx)
doomed_up l tx = up_through (length l.pairs) l.pairs (tx ∷ []) (missing_most l.pairs (tx ∷ []))

pub keeps_through : (n : ℕ) (pairs : List (TxId × TxId)) (set : List TxId) (u : TxId) → tx_in u set ≡ true → tx_in u (successors_through n pairs set) ≡ true
keeps_through zero pairs set u i = i
keeps_through (suc n) pairs set u i = keeps_through n pairs (with_successors pairs set set) u (round_keeps pairs set set u i)

-- a property that passes to successors holds of all of them
pub through_all : (P : TxId → Type 0) (n : ℕ) (pairs : List (TxId × TxId)) (set : List TxId) → ((a b : TxId) → is_pair pairs a b ≡ true → P b → P a) → ((t : TxId) → tx_in t set ≡ true → P t) → (t : TxId) → tx_in t (successors_through n pairs set) ≡ true → P t
through_all P zero pairs set d k t i = k t i
through_all P (suc n) pairs set d k t i = through_all P n pairs (with_successors pairs set set) d (with_from P pairs set set (λ a b j i. d a b j (k b i)) k) t i
