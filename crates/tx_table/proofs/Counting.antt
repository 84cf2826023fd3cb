-- A list that rises has no more than a list that holds all of it.
use Rattle.std.proofs.Common.{◌≡◌, refl, sym, ap, subst, ◌∙◌, ⊎_elim, ℕ, zero, suc, ◌+◌, ◌<◌, ◌≤◌, Bool, true, false, cond, ◌||◌, List, [], ◌∷◌, length, drop, get_or, drop-cons, add-one, arith}
use Rattle.std.proofs.lemmas.Bool.{both_ways, or_cases, or_parts}
use Rattle.std.specs.List.Sorted.{IsStrictlySortedBy}
use Rattle.std.specs.declared.cmp.Ordering.{Ordering}
use Rattle.std.specs.declared.cmp.Ordering.TheVariants.{Less, Equal, Greater}
use Rattle.std.specs.Ordering.{is_eq, match_ordering}
use Rattle.clv_base.specs.declared.names.TxId.{TxId}
use Rattle.clv_base.specs.Orders.{tx_cmp, tx_same, tx_in, tx_insert}
use Rattle.clv_base.proofs.SameNames.{or_left, or_right, tx_true, tx_self, in_insert}
use Rattle.tx_table.specs.Held.{Candidates, AreAmong, HasRoomFor, HasRoomBy}
use Rattle.law_base.proofs.Sets.{tx_total}
use Rattle.law_base.proofs.Rising.{insert_key-rises}
use Rattle.law_base.proofs.Names.{not_less, above_in, tx_in-insert as insert_in}

without : TxId → List TxId → List TxId
without n [] = []
without n (m ∷ ms) = cond (tx_same m n) ms (m ∷ without n ms)

without_length : (n : TxId) (ms : List TxId) → tx_in n ms ≡ true → length (without n ms) + 1 ≡ length ms
unfolding without
without_length n [] i = absurd (both_ways false refl i)
without_length n (m ∷ ms) i = at (tx_same m n) i (without_length n ms)
  where
    at : (b : Bool) → (b || tx_in n ms) ≡ true → (tx_in n ms ≡ true → length (without n ms) + 1 ≡ length ms) → length (cond b ms (m ∷ without n ms)) + 1 ≡ length (m ∷ ms)
    at true i more = omega arith
    at false i more = let h = more i in omega (arith, h)

without_keeps : (n k : TxId) (ms : List TxId) → (k ≡ n → ⊥) → tx_in k ms ≡ true → tx_in k (without n ms) ≡ true
unfolding without
without_keeps n k [] ne i = absurd (both_ways false refl i)
without_keeps n k (m ∷ ms) ne i = at (tx_same m n) refl (without_keeps n k ms ne)
  where
    at : (b : Bool) → tx_same m n ≡ b → (tx_in k ms ≡ true → tx_in k (without n ms) ≡ true) → tx_in k (cond b ms (m ∷ without n ms)) ≡ true
    at true e more = ⊎_elim (λ s. absurd (ne (sym (tx_true m k s) ∙ tx_true m n e))) (λ h. h) (or_cases (tx_same m k) (tx_in k ms) i)
    at false e more = ⊎_elim (λ s. or_left (tx_same m k) (tx_in k (without n ms)) s) (λ h. or_right (tx_same m k) (tx_in k (without n ms)) (more h)) (or_cases (tx_same m k) (tx_in k ms) i)

no_more : (ns ms : List TxId) → IsStrictlySortedBy tx_cmp ns → AreAmong ns ms → length ns ≤ length ms
unfolding IsStrictlySortedBy
no_more [] ms s h = omega arith
no_more (n ∷ ns) ms s h =
    let here = without_length n ms (h n (or_left (tx_same n n) (tx_in n ns) (tx_self n))) in
    let rest = no_more ns (without n ms) s.1 (λ k i. without_keeps n k ms (λ e. not_less n (above_in n n ns s.0 (subst (λ z. tx_in z ns ≡ true) e i))) (h k (or_right (tx_same n k) (tx_in k ns) i))) in
    omega (arith, here, rest)

insert_length : (n : TxId) (ns : List TxId) → tx_in n ns ≡ false → length (tx_insert n ns) ≡ length ns + 1
insert_length n [] e = omega arith
insert_length n (m ∷ ms) e = at (tx_cmp n m) (λ q. tx_true n m (ap is_eq q)) (insert_length n ms (or_parts (tx_same m n) (tx_in n ms) e).1)
  where
    at : (o : Ordering) → (o ≡ Equal → n ≡ m) → length (tx_insert n ms) ≡ length ms + 1 → length (match_ordering o (n ∷ m ∷ ms) (m ∷ ms) (m ∷ tx_insert n ms)) ≡ length (m ∷ ms) + 1
    at Less q h = omega arith
    at Equal q h = absurd (both_ways _ (or_parts (tx_same m n) (tx_in n ms) e).0 (subst (λ z. tx_same m z ≡ true) (sym (q refl)) (tx_self m)))
    at Greater q h = omega (arith, h)

-- there is room for one of those for whom there is room
pub room_for : (tx : TxId) (txs all : List TxId) (limit : ℕ) → IsStrictlySortedBy tx_cmp txs → AreAmong txs all → tx_in tx all ≡ true → length all ≤ limit → tx_in tx txs ≡ false → length txs < limit
room_for tx txs all limit s among i few out =
    let more = insert_length tx txs out in
    let most = no_more (tx_insert tx txs) all (insert_key-rises tx_total tx txs s) (λ k j. ⊎_elim (λ e. subst (λ z. tx_in z all ≡ true) (sym e) i) (λ h. among k h) (in_insert tx k txs j)) in
    omega (arith, more, most, few)

-- those so far and the rest
pub step_in : (i : ℕ) (ts : List TxId) (d x : TxId) (b : Bool) → i < length ts → (tx_in x (drop i ts) || b) ≡ (tx_in x (drop (i + 1) ts) || (tx_same (get_or ts i d) x || b))
step_in i ts d x b h =
    let e : drop i ts ≡ get_or ts i d ∷ drop (i + 1) ts = rw (add-one, drop-cons ts i d) refl in
    ap (λ l. tx_in x l || b) e ∙ turn (tx_same (get_or ts i d) x) (tx_in x (drop (i + 1) ts)) b
  where
    turn : (p q r : Bool) → ((p || q) || r) ≡ (q || (p || r))
    turn true true r = refl
    turn true false r = refl
    turn false true r = refl
    turn false false r = refl

pub room_one : (tx : TxId) (c : Candidates) → HasRoomFor (tx ∷ []) c → IsStrictlySortedBy tx_cmp c.txs → tx_in tx c.txs ≡ false → length c.txs < c.limit
room_one tx c r s out = room_for tx c.txs r.0 c.limit s r.1 (r.2 tx (or_left (tx_same tx tx) false (tx_self tx))) r.3 out

get_in : (i : ℕ) (ts : List TxId) (d : TxId) → i < length ts → tx_in (get_or ts i d) ts ≡ true
get_in i [] d h = absurd (omega arith)
get_in zero (t ∷ ts) d h = or_left (tx_same t t) (tx_in t ts) (tx_self t)
get_in (suc i) (t ∷ ts) d h = or_right (tx_same t (get_or ts i d)) (tx_in (get_or ts i d) ts) (get_in i ts d (omega (arith, h)))

-- in the middle of many there is room for the next
pub room_next : (i : ℕ) (ts : List TxId) (d : TxId) (before now : Candidates) → HasRoomFor ts before → ((x : TxId) → (tx_in x (drop i ts) || tx_in x now.txs) ≡ (tx_in x ts || tx_in x before.txs)) → now.limit ≡ before.limit → i < length ts
    → HasRoomFor (get_or ts i d ∷ []) now
room_next i ts d before now r same limit h = (
  r.0,
  λ x e. ⊎_elim (λ a. r.2 x a) (λ b. r.1 x b) (or_cases (tx_in x ts) (tx_in x before.txs) (sym (same x) ∙ or_right (tx_in x (drop i ts)) (tx_in x now.txs) e)),
  λ x e. ⊎_elim (λ s. subst (λ z. tx_in z r.0 ≡ true) (tx_true (get_or ts i d) x s) (r.2 (get_or ts i d) (get_in i ts d h))) (λ n. absurd (both_ways false refl n)) (or_cases (tx_same (get_or ts i d) x) false e),
  subst (λ n. length r.0 ≤ n) (sym limit) r.3,
)

pub step_more : (i : ℕ) (ts : List TxId) (d x : TxId) (now : List TxId) (more : List TxId) → more ≡ tx_insert (get_or ts i d) now → i < length ts → (tx_in x (drop (i + 1) ts) || tx_in x more) ≡ (tx_in x (drop i ts) || tx_in x now)
step_more i ts d x now more e h = ap (λ l. tx_in x (drop (i + 1) ts) || tx_in x l) e ∙ ap (λ b. tx_in x (drop (i + 1) ts) || b) (insert_in (get_or ts i d) x now) ∙ sym (step_in i ts d x (tx_in x now) h)

-- ---- for those that pass

pub room_own : (p : TxId → Bool) (tx : TxId) (c : Candidates) → HasRoomBy p c → p tx ≡ true → HasRoomFor (tx ∷ []) c
room_own p tx c r e = (r.0, r.1, λ x i. ⊎_elim (λ s. subst (λ z. tx_in z r.0 ≡ true) (tx_true tx x s) (r.2 tx e)) (λ n. absurd (both_ways false refl n)) (or_cases (tx_same tx x) false i), r.3)

pub room_then : (p : TxId → Bool) (tx : TxId) (c d : Candidates) (xs : List TxId) → HasRoomBy p c → p tx ≡ true → d.txs ≡ tx_insert tx c.txs → d.limit ≡ c.limit → ((x : TxId) → tx_in x xs ≡ true → p x ≡ true) → HasRoomFor xs d
room_then p tx c d xs r e txs limit all = (
  r.0,
  λ x i. ⊎_elim (λ s. subst (λ z. tx_in z r.0 ≡ true) (sym s) (r.2 tx e)) (λ h. r.1 x h) (in_insert tx x c.txs (sym (ap (tx_in x) txs) ∙ i)),
  λ x i. r.2 x (all x i),
  subst (λ n. length r.0 ≤ n) (sym limit) r.3,
)
