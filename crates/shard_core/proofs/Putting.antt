-- A table with one entry more, and what it counts.
use Rattle.std.proofs.Common.{◌≡◌, refl, sym, ap, subst, ◌∙◌, ⊎_elim, ℕ, suc, ◌+◌, ◌≤◌, Bool, true, false, cond, ◌&&◌, is_none, List, [], ◌∷◌, ◌++◌, length, Some, None, arith}
use Rattle.std.proofs.lemmas.Bool.{both_ways, or_cases}
use Rattle.std.specs.List.Sorted.{IsStrictlySortedBy}
use Rattle.std.specs.Map.{keys_of}
use Rattle.std.specs.declared.cmp.Ordering.{Ordering}
use Rattle.std.specs.declared.cmp.Ordering.TheVariants.{Less, Equal, Greater}
use Rattle.std.specs.Ordering.{is_eq, match_ordering}
use Rattle.clv_base.specs.declared.names.TxId.{TxId}
use Rattle.clv_base.specs.declared.state.Held.{Held}
use Rattle.clv_base.specs.declared.state.Voter.{Voter}
use Rattle.clv_base.specs.Orders.{Table, tx_cmp, tx_same, tx_in, tx_get, tx_put}
use Rattle.clv_base.specs.Participant.{asked_voter, voters_asked}
use Rattle.clv_base.specs.OneShard.{closed_part, closed_in}
use Rattle.clv_base.specs.Due.{total, part_work}
use Rattle.protocol_laws.specs.Left.{left_voter, total_by}
use Rattle.clv_base.proofs.SameNames.{or_left, or_right, tx_true, tx_self, tx_eq}
use Rattle.law_base.proofs.Sets.{tx_total, AllAbove as Above}
use Rattle.protocol_laws.proofs.Laws.{in_append}
use Rattle.law_base.proofs.Names.{in_first as in_left, in_second as in_right, not_above as above_none}

-- ---- who is in it

pub put_in : {V : Type 0} (t : TxId) (v : V) (x : TxId) (rs : Table V) → tx_in x (keys_of rs) ≡ true → tx_in x (keys_of (tx_put t v rs)) ≡ true
put_in t v x [] e = absurd (both_ways false refl e)
put_in t v x (r ∷ rs) e = at (tx_cmp t r.0) (put_in t v x rs)
  where
    at : (o : Ordering) → (tx_in x (keys_of rs) ≡ true → tx_in x (keys_of (tx_put t v rs)) ≡ true) → tx_in x (keys_of (match_ordering o ((t, v) ∷ r ∷ rs) ((r.0, v) ∷ rs) (r ∷ tx_put t v rs))) ≡ true
    at Less more = or_right (tx_same t x) _ e
    at Equal more = e
    at Greater more = ⊎_elim (λ s. or_left (tx_same r.0 x) _ s) (λ i. or_right (tx_same r.0 x) _ (more i)) (or_cases (tx_same r.0 x) (tx_in x (keys_of rs)) e)

pub put_own : {V : Type 0} (t : TxId) (v : V) (rs : Table V) → tx_in t (keys_of (tx_put t v rs)) ≡ true
put_own t v [] = or_left (tx_same t t) false (tx_self t)
put_own t v (r ∷ rs) = at (tx_cmp t r.0) refl (put_own t v rs)
  where
    at : (o : Ordering) → tx_cmp t r.0 ≡ o → tx_in t (keys_of (tx_put t v rs)) ≡ true → tx_in t (keys_of (match_ordering o ((t, v) ∷ r ∷ rs) ((r.0, v) ∷ rs) (r ∷ tx_put t v rs))) ≡ true
    at Less e more = or_left (tx_same t t) _ (tx_self t)
    at Equal e more = or_left (tx_same r.0 t) _ (tx_eq r.0 t (sym (tx_true t r.0 (ap is_eq e))))
    at Greater e more = or_right (tx_same r.0 t) _ more

pub put_most : {V : Type 0} (t : TxId) (v : V) (rs : Table V) → length (tx_put t v rs) ≤ length rs + 1
put_most t v [] = omega arith
put_most t v (r ∷ rs) = at (tx_cmp t r.0) (put_most t v rs)
  where
    at : (o : Ordering) → length (tx_put t v rs) ≤ length rs + 1 → length (match_ordering o ((t, v) ∷ r ∷ rs) ((r.0, v) ∷ rs) (r ∷ tx_put t v rs)) ≤ length (r ∷ rs) + 1
    at Less more = omega arith
    at Equal more = omega arith
    at Greater more = omega arith

-- ---- in lists one behind another

pub left_more : (x : TxId) (xs more ys : List TxId) → (tx_in x xs ≡ true → tx_in x more ≡ true) → tx_in x (xs ++ ys) ≡ true → tx_in x (more ++ ys) ≡ true
left_more x xs more ys h e = ⊎_elim (λ i. in_left x more ys (h i)) (λ i. in_right x more ys i) (or_cases (tx_in x xs) (tx_in x ys) (sym (in_append x xs ys) ∙ e))

pub right_more : (x : TxId) (xs ys more : List TxId) → (tx_in x ys ≡ true → tx_in x more ≡ true) → tx_in x (xs ++ ys) ≡ true → tx_in x (xs ++ more) ≡ true
right_more x xs ys more h e = ⊎_elim (λ i. in_left x xs more i) (λ i. in_right x xs more (h i)) (or_cases (tx_in x xs) (tx_in x ys) (sym (in_append x xs ys) ∙ e))

-- ---- what is left to do by it

above_all : (t u : TxId) (ts : List TxId) → tx_cmp t u ≡ Less → Above u ts → ((x : TxId) → tx_cmp t u ≡ Less → tx_cmp u x ≡ Less → tx_cmp t x ≡ Less) → Above t ts
above_all t u [] l a h = tt
above_all t u (x ∷ xs) l a h = (h x l a.0, above_all t u xs l a.1 h)

-- one vote more is owed
asked_more : (finished : Bool) (home seen : ℕ) (v : Voter) → left_voter finished (asked_voter home seen (Some v)) ≤ left_voter finished v + 1
asked_more finished home seen v = at (finished && is_none v.vote)
  where
    at : (b : Bool) → cond b 0 (suc v.owed) ≤ cond b 0 v.owed + 1
    at true = omega arith
    at false = omega arith

asked_first : (finished : Bool) (home seen : ℕ) → left_voter finished (asked_voter home seen None) ≤ 1
asked_first true home seen = omega arith
asked_first false home seen = omega arith

abbrev asked_at : TxId → ℕ → ℕ → TxId × Voter → Table Voter → Ordering → Voter
asked_at tx home seen r rs o = asked_voter home seen (cond (is_eq o) (Some r.1) (tx_get tx rs))

pub asked_total : (test : TxId → Bool) (tx : TxId) (home seen : ℕ) (vs : Table Voter) → IsStrictlySortedBy tx_cmp (keys_of vs) → total_by left_voter test (voters_asked tx home seen vs) ≤ total_by left_voter test vs + 1
unfolding IsStrictlySortedBy
asked_total test tx home seen [] s = let first = asked_first (test tx) home seen in omega (arith, first)
asked_total test tx home seen (r ∷ rs) s = at (tx_cmp tx r.0) refl (asked_total test tx home seen rs s.1)
  where
    at : (o : Ordering) → tx_cmp tx r.0 ≡ o → total_by left_voter test (voters_asked tx home seen rs) ≤ total_by left_voter test rs + 1
        → total_by left_voter test (match_ordering o ((tx, asked_at tx home seen r rs o) ∷ r ∷ rs) ((r.0, asked_at tx home seen r rs o) ∷ rs) (r ∷ tx_put tx (asked_at tx home seen r rs o) rs)) ≤ left_voter (test r.0) r.1 + total_by left_voter test rs + 1
    at Less e more =
        let none = above_none tx rs (above_all tx r.0 (keys_of rs) e s.0 (λ x. tx_total.trans tx r.0 x)) in
        let first = asked_first (test tx) home seen in
        let same = ap (λ o. left_voter (test tx) (asked_voter home seen o)) none in
        omega (arith, first, same)
    at Equal e more = let one = asked_more (test r.0) home seen r.1 in omega (arith, one)
    at Greater e more = omega (arith, more)

-- a part that closes
closed_above : (tx : TxId) (rs : Table Held) → Above tx (keys_of rs) → total part_work (closed_in tx rs) ≤ total part_work rs
closed_above tx [] a = omega arith
closed_above tx (r ∷ rs) a = at (tx_same tx r.0) (ap is_eq a.0) (closed_above tx rs a.1)
  where
    at : (b : Bool) → b ≡ false → total part_work (closed_in tx rs) ≤ total part_work rs → part_work (cond b (closed_part r.1) r.1) + total part_work (closed_in tx rs) ≤ part_work r.1 + total part_work rs
    at true e more = absurd (both_ways true e refl)
    at false e more = omega arith

pub closed_total : (tx : TxId) (rs : Table Held) → IsStrictlySortedBy tx_cmp (keys_of rs) → total part_work (closed_in tx rs) ≤ total part_work rs + 1
unfolding IsStrictlySortedBy
closed_total tx [] s = omega arith
closed_total tx (r ∷ rs) s = at (tx_same tx r.0) refl (closed_total tx rs s.1)
  where
    at : (b : Bool) → tx_same tx r.0 ≡ b → total part_work (closed_in tx rs) ≤ total part_work rs + 1 → part_work (cond b (closed_part r.1) r.1) + total part_work (closed_in tx rs) ≤ part_work r.1 + total part_work rs + 1
    at true e more = let rest = closed_above tx rs (subst (λ t. Above t (keys_of rs)) (sym (tx_true tx r.0 e)) s.0) in omega (arith, rest)
    at false e more = omega arith
