-- Lemmas of names, locks and parts.
use Rattle.std.proofs.Common.{◌≡◌, Option, Some, List, ◌∷◌, None, [], ap, true, ℕ, map, ◌==◌, refl, ◌∙◌, eq-eqb, false, subst, sym, cond, Bool, ◌⊎◌, ⊎_elim, ◌||◌, ◌++◌, not, ◌&&◌, length, eqb-true}
use Rattle.clv_base.specs.declared.values.Value.{Value as ValueType}
use Rattle.clv_base.specs.declared.names.Birth.{Birth}
use Rattle.clv_base.specs.declared.names.TxId.{TxId}
use Rattle.clv_base.specs.Orders.{tx_cmp, tx_same, tx_in, Table, tx_get, tx_insert, pair_cmp, pair_insert, anchor_same, anchor_cmp, birth_cmp}
use Rattle.clv_base.specs.declared.ops.Op.{Op}
use Rattle.clv_base.specs.declared.ops.Answer.{Answer}
use Rattle.std.specs.List.{AllByRecursion, list_any, list_all}
use Rattle.std.proofs.lemmas.Bool.{cond_both, both_ways, cond-true, false_from_ne_true, or_cases, and_from, and_parts}
use Rattle.std.specs.declared.cmp.Ordering.TheVariants.{Less, Equal, Greater}
use Rattle.std.specs.Ordering.{is_eq, match_ordering, nat_cmp, ordering_then}
use Rattle.clv_base.proofs.SameNames.{tx_self, or_left, or_right, tx_true, tx_eq, in_insert, insert_keeps, insert_has, tx_flip}
use Rattle.law_base.proofs.Lists.{all_mono}
pub use Rattle.law_base.proofs.Standing.{all_without, Falls, falls_weaker, falls_without, falls_length}
pub use Rattle.law_base.proofs.Sets.{Rise, one_rises, in_flipped}
use Rattle.clv_base.specs.declared.messages.Message.{Message}
use Rattle.clv_base.specs.declared.messages.Message.TheVariants.{Decide}
use Rattle.clv_base.specs.declared.state.RequestState.{RequestState}
use Rattle.clv_base.specs.declared.state.RequestState.TheVariants.{Undecided, Committed, Finished, Refused}
use Rattle.clv_base.specs.Needs.{Records, found_at, found_by, is_there, record_set, writes_of, is_locked_or_live}
use Rattle.law_base.proofs.Cells.{record_at}
use Rattle.law_base.proofs.Anchors.{record_at_set}
use Rattle.std.specs.Map.{keys_of}
use Rattle.law_base.proofs.Changed.{none_some}
use Rattle.clv_base.specs.Coordinator.{restored_requests}
use Rattle.clv_base.specs.declared.ops.Op.TheVariants.{Get, Put, Del, Scan, Add}
use Rattle.clv_base.specs.declared.ops.Answer.TheVariants.{Value, Pairs, Added}
use Rattle.clv_base.specs.Folding.{key_written}
use Rattle.law_base.specs.Items.{told as value_told, is_write_at, Item}
use Rattle.std.specs.Cmp.{both_ways as same_tests}
use Rattle.std.proofs.lemmas.List.Folds.{list_any-append}
use Rattle.clv_base.specs.Restarts.{restored_parts, old_birth, restored_part, ghost_if_absent}
use Rattle.clv_base.specs.Undo.{pairs_without, stage_of, doomed_by, doomed_here}
use Rattle.clv_base.specs.Facts.{predecessors_of}
use Rattle.std.specs.declared.cmp.Ordering.{Ordering}
use Rattle.clv_base.specs.declared.modes.Anchor.TheVariants.{At, Low}
use Rattle.clv_base.specs.Locks.{Locks, take_one}
use Rattle.law_base.proofs.Tables.{is_pair}
use Rattle.clv_base.specs.declared.state.Stage.{Stage}
use Rattle.clv_base.specs.declared.state.Stage.TheVariants.{Closed, Active}
use Rattle.clv_base.specs.declared.state.Held.{Held}
use Rattle.clv_base.specs.State.{Local, is_present}
use Rattle.law_base.proofs.Sets.{filter_in, AllAbove}
use Rattle.law_base.proofs.Successors.{keeps_through}
use Rattle.std.proofs.lemmas.Cmp.{nat_cmp_total}
use Rattle.clv_base.specs.declared.modes.Anchor.{Anchor}
use Rattle.clv_base.specs.declared.modes.Holder.{Holder}
use Rattle.clv_base.specs.declared.modes.Part.{Part}
use Rattle.clv_base.specs.Modes.{on_key}
use Rattle.clv_base.specs.OneShard.{add_pairs}
use Rattle.law_base.proofs.LockRows.{holds, least, take_keeps, take_gives}
use Rattle.clv_base.specs.declared.modes.Found.{Found}
use Rattle.clv_base.specs.declared.modes.Found.TheVariants.{Live, Ghost, Absent}

pub birth_same : (a b : Birth) → ◌≡◌ {A = Option Birth} (Some a) (Some b) → a ≡ b
birth_same a b h = cc

pub not_less : (t : TxId) → tx_cmp t t ≡ Less → ⊥
not_less t e = both_ways _ (ap is_eq e) (tx_self t)

pub own_in : (ts : List TxId) → AllByRecursion (λ t. tx_in t ts ≡ true) ts
own_in [] = tt
own_in (t ∷ ts) = (or_left (tx_same t t) (tx_in t ts) (tx_self t), all_mono (λ u. tx_in u ts ≡ true) (λ u. tx_in u (t ∷ ts) ≡ true) (λ u h. or_right (tx_same t u) (tx_in u ts) h) ts (own_in ts))

abbrev pub by_state : TxId → ℕ → RequestState → List Message
by_state tx shard st = elim st [ Committed parts ↦ map (λ p. Decide p tx shard true) parts | Undecided ↦ [] | Finished ↦ [] | Refused cause ↦ [] ]

pub set_has : (k : ℕ) (v : Option ValueType) (rs : Records) → is_there (found_at k (record_set k v rs)) ≡ true
set_has k v rs = ap (λ o. is_there (found_by o)) (record_at_set k k v rs ∙ cond-true (k == k) (Some v) (record_at k rs) (eq-eqb k k refl)) ∙ some v
  where
    some : (v : Option ValueType) → is_there (found_by (Some v)) ≡ true
    some None = refl
    some (Some u) = refl

pub other_name : (set : List TxId) (t u : TxId) → tx_in t set ≡ true → tx_in u set ≡ false → tx_same t u ≡ false
other_name set t u i o = false_from_ne_true _ (λ e. both_ways _ o (subst (λ x. tx_in x set ≡ true) (tx_true t u e) i))

pub has_key : {V : Type 0} (t : TxId) (v : V) (rs : Table V) → tx_get t rs ≡ Some v → tx_in t (keys_of rs) ≡ true
has_key t v [] e = absurd (none_some v e)
has_key t v (r ∷ rs) e = at (tx_same t r.0) refl e (has_key t v rs)
  where
    at : (b : Bool) → tx_same t r.0 ≡ b → cond b (Some r.1) (tx_get t rs) ≡ Some v → (tx_get t rs ≡ Some v → tx_in t (keys_of rs) ≡ true) → tx_in t (r.0 ∷ keys_of rs) ≡ true
    at true q f k = or_left (tx_same r.0 t) (tx_in t (keys_of rs)) (subst (λ z. tx_same r.0 z ≡ true) (sym (tx_true t r.0 q)) (tx_self r.0))
    at false q f k = or_right (tx_same r.0 t) (tx_in t (keys_of rs)) (k f)

pub request_keys : (unended : Table (List ℕ)) → keys_of (restored_requests unended) ≡ keys_of unended
request_keys [] = refl
request_keys (u ∷ us) = ap (λ ks. u.0 ∷ ks) (request_keys us)

pub first_of : (a b : Answer) (as_ bs : List Answer) → a ∷ as_ ≡ b ∷ bs → (a ≡ b) × (as_ ≡ bs)
first_of a b as_ bs e = (cc, cc)

pub written_at : (o : Op) (a : Answer) (k : ℕ) → key_written o a ≡ Some k → is_write_at (writes_of o (value_told a)) k ≡ true
written_at (Get j) a k e = absurd cc
written_at (Put j v) a k e = let s : j ≡ k = cc in eq-eqb k j (sym s)
written_at (Del j) (Value (Some v)) k e = let s : j ≡ k = cc in eq-eqb k j (sym s)
written_at (Del j) (Value None) k e = absurd cc
written_at (Del j) (Pairs ps) k e = absurd cc
written_at (Del j) (Added found) k e = absurd cc
written_at (Add j n) (Added true) k e = let s : j ≡ k = cc in eq-eqb k j (sym s)
written_at (Add j n) (Added false) k e = absurd cc
written_at (Add j n) (Value v) k e = absurd cc
written_at (Add j n) (Pairs ps) k e = absurd cc
written_at (Scan lo hi) a k e = absurd cc

pub tx_in-insert : (x t : TxId) (xs : List TxId) → tx_in t (tx_insert x xs) ≡ (tx_same x t || tx_in t xs)
tx_in-insert x t xs = same_tests _ _
    (λ e. ⊎_elim (λ s. or_left _ _ (tx_eq x t (sym s))) (λ m. or_right _ _ m) (in_insert x t xs e))
    (λ e. ⊎_elim (λ s. subst (λ y. tx_in y (tx_insert x xs) ≡ true) (tx_true x t s) (insert_has x xs)) (λ m. insert_keeps x t xs m) (or_cases (tx_same x t) (tx_in t xs) e))

pub above_in : (t x : TxId) (ts : List TxId) → AllByRecursion (λ u. tx_cmp t u ≡ Less) ts → tx_in x ts ≡ true → tx_cmp t x ≡ Less
above_in t x [] a i = absurd (both_ways false refl i)
above_in t x (u ∷ us) a i = ⊎_elim (λ h. subst (λ z. tx_cmp t z ≡ Less) (tx_true u x h) a.0) (λ h. above_in t x us a.1 h) (or_cases (tx_same u x) (tx_in x us) i)

pub in_append : (x : TxId) (xs ys : List TxId) → tx_in x (xs ++ ys) ≡ (tx_in x xs || tx_in x ys)
in_append x xs ys = list_any-append (λ y. tx_same y x) xs ys

pub listed_have : (P : TxId → Type 0) (t : TxId) (qs : List TxId) → P t → AllByRecursion (λ (p : TxId × TxId). P p.0) (map (λ q. (t, q)) qs)
listed_have P t [] h = tt
listed_have P t (q ∷ qs) h = (h, listed_have P t qs h)

pub keys_restored : (ts : List TxId) → keys_of (restored_parts ts) ≡ ts
keys_restored [] = refl
keys_restored (t ∷ ts) = ap (λ ks. t ∷ ks) (keys_restored ts)

pub preds_without : (set : List TxId) (x : TxId) (pairs : List (TxId × TxId)) → tx_in x set ≡ false → predecessors_of (pairs_without set pairs) x ≡ predecessors_of pairs x
preds_without set x [] out = refl
preds_without set x (p ∷ ps) out = at (tx_in p.0 set) refl (preds_without set x ps out)
  where
    at : (b : Bool) → tx_in p.0 set ≡ b → predecessors_of (pairs_without set ps) x ≡ predecessors_of ps x
        → predecessors_of (cond (not b) (p ∷ pairs_without set ps) (pairs_without set ps)) x ≡ predecessors_of (p ∷ ps) x
    at true i more =
        let other : tx_same x p.0 ≡ false = false_from_ne_true _ (λ e. both_ways _ out (subst (λ z. tx_in z set ≡ true) (sym (tx_true x p.0 e)) i)) in
        more ∙ sym (ap (λ b. elim b [ true ↦ tx_insert p.1 (predecessors_of ps x) | false ↦ predecessors_of ps x ]) other)
    at false i more = ap (λ l. elim (tx_same x p.0) [ true ↦ tx_insert p.1 l | false ↦ l ]) more

pub preds_insert : (x tx q : TxId) (pairs : List (TxId × TxId)) → tx_same x tx ≡ false → predecessors_of (pair_insert (tx, q) pairs) x ≡ predecessors_of pairs x
preds_insert x tx q [] other = ap (λ b. elim b [ true ↦ tx_insert q [] | false ↦ [] ]) other
preds_insert x tx q (p ∷ ps) other = at (pair_cmp (tx, q) p) (preds_insert x tx q ps other)
  where
    at : (o : Ordering) → predecessors_of (pair_insert (tx, q) ps) x ≡ predecessors_of ps x → predecessors_of (match_ordering o ((tx, q) ∷ p ∷ ps) (p ∷ ps) (p ∷ pair_insert (tx, q) ps)) x ≡ predecessors_of (p ∷ ps) x
    at Less more = ap (λ b. elim b [ true ↦ tx_insert q (predecessors_of (p ∷ ps) x) | false ↦ predecessors_of (p ∷ ps) x ]) other
    at Equal more = refl
    at Greater more = ap (λ l. elim (tx_same x p.0) [ true ↦ tx_insert p.1 l | false ↦ l ]) more

abbrev pub is_held_at : ℕ → Locks → Bool
is_held_at k locks = list_any (λ r. anchor_same (At k) r.0) locks

pub all_from : (f : TxId → Bool) (ps : List TxId) → ((q : TxId) → tx_in q ps ≡ true → f q ≡ true) → list_all f ps ≡ true
all_from f [] k = refl
all_from f (p ∷ ps) k = both (f p) (list_all f ps) (k p (or_left (tx_same p p) (tx_in p ps) (tx_self p))) (all_from f ps (λ q i. k q (or_right (tx_same p q) (tx_in q ps) i)))
  where
    both : (a b : Bool) → a ≡ true → b ≡ true → (a && b) ≡ true
    both true b e f = f
    both false b e f = e

pub own_pairs : (tx t p : TxId) (ps : List TxId) → tx_same t tx ≡ true → tx_in p ps ≡ true → is_pair (map (λ q. (tx, q)) ps) t p ≡ true
own_pairs tx t p [] e i = absurd (both_ways false refl i)
own_pairs tx t p (q ∷ qs) e i =
    ⊎_elim (λ h. or_left (tx_same t tx && tx_same p q) _ (and_from _ _ e (tx_flip q p h))) (λ h. or_right (tx_same t tx && tx_same p q) _ (own_pairs tx t p qs e h)) (or_cases (tx_same q p) (tx_in p qs) i)

pub none_closed : ◌≡◌ {A = Option Stage} None (Some Closed) → ⊥
none_closed e = absurd cc

pub none_held : (h : Held) → ◌≡◌ {A = Option Held} None (Some h) → ⊥
none_held h e = absurd cc

pub in_doomed : (l : Local) (u : TxId) → is_present (stage_of l u) ≡ true → tx_in u (doomed_here l u) ≡ true
in_doomed l u h = filter_in (λ t. is_present (stage_of l t)) u (doomed_by l u) (keeps_through (length l.pairs) l.pairs (u ∷ []) u (or_left (tx_same u u) false (tx_self u))) h

pub anchor_less : (a b c : Anchor) → anchor_cmp a b ≡ Less → anchor_cmp b c ≡ Less → anchor_cmp a c ≡ Less
anchor_less Low Low c e f = absurd cc
anchor_less Low (At j) Low e f = absurd cc
anchor_less Low (At j) (At k) e f = refl
anchor_less (At i) Low c e f = absurd cc
anchor_less (At i) (At j) Low e f = absurd cc
anchor_less (At i) (At j) (At k) e f = nat_cmp_total.trans i j k e f

abbrev pub held_on : Anchor → Locks → Bool
held_on a locks = list_any (λ r. anchor_same a r.0) locks

abbrev pub item_told : Item → Op × Answer
item_told x = (x.op, x.answer)

pub above_not_in : (x : TxId) (xs : List TxId) → AllByRecursion (λ y. tx_cmp x y ≡ Less) xs → tx_in x xs ≡ false
above_not_in x [] a = refl
above_not_in x (y ∷ ys) a =
    false_from_ne_true _ (λ e. ⊎_elim (λ s. both_ways _ (ap is_eq a.0) (ap is_eq (ap (tx_cmp x) (tx_true y x s)) ∙ tx_self x)) (λ m. both_ways _ (above_not_in x ys a.1) m) (or_cases (tx_same y x) (tx_in x ys) e))

abbrev pub set_by : Ordering → ℕ → Option ValueType → ℕ × Option ValueType → Records → Records
set_by o k v r rs = match_ordering o ((k, v) ∷ r ∷ rs) ((r.0, v) ∷ rs) (r ∷ record_set k v rs)

abbrev pub MayStand : Table Held → TxId → Birth → Type 0
MayStand parts tx birth = (tx_get tx parts ≡ None) ⊎ ((h : Held) × (tx_get tx parts ≡ Some h) × (h.birth ≡ birth) × (h.stage ≡ Active))

abbrev pub shut_lock : TxId → Part → Holder
shut_lock tx part = record { tx = tx; birth = old_birth tx; mode = on_key part; closed = true }

abbrev pub Stays : Locks → Records → Type 0
Stays locks rs = AllByRecursion (λ r. is_locked_or_live locks r ≡ true) rs

pub birth_self : (b : Birth) → is_eq (birth_cmp b b) ≡ true
birth_self b = at (nat_cmp b.stamp b.stamp) (nat_cmp b.session b.session) (nat_cmp b.serial b.serial) (one b.stamp) (one b.session) (one b.serial)
  where
    one : (n : ℕ) → is_eq (nat_cmp n n) ≡ true
    one n = first (nat_cmp n n) _ (tx_self (record { run = n; session = n; serial = n }))
      where
        first : (x y : Ordering) → is_eq (ordering_then x y) ≡ true → is_eq x ≡ true
        first Less y h = absurd (both_ways false refl h)
        first Equal y h = refl
        first Greater y h = absurd (both_ways false refl h)

    at : (x y z : Ordering) → is_eq x ≡ true → is_eq y ≡ true → is_eq z ≡ true → is_eq (ordering_then x (ordering_then y z)) ≡ true
    at Equal Equal z e f g = g
    at Less y z e f g = absurd (both_ways false refl e)
    at Greater y z e f g = absurd (both_ways false refl e)
    at Equal Less z e f g = absurd (both_ways false refl f)
    at Equal Greater z e f g = absurd (both_ways false refl f)

pub in_first : (x : TxId) (xs ys : List TxId) → tx_in x xs ≡ true → tx_in x (xs ++ ys) ≡ true
in_first x [] ys e = absurd (both_ways false refl e)
in_first x (z ∷ zs) ys e = ⊎_elim (λ h. or_left _ _ h) (λ h. or_right (tx_same z x) _ (in_first x zs ys h)) (or_cases (tx_same z x) (tx_in x zs) e)

pub in_second : (x : TxId) (xs ys : List TxId) → tx_in x ys ≡ true → tx_in x (xs ++ ys) ≡ true
in_second x [] ys e = e
in_second x (z ∷ zs) ys e = or_right (tx_same z x) _ (in_second x zs ys e)

pub restored_there : (txs : List TxId) (t : TxId) → tx_in t txs ≡ true → tx_get t (restored_parts txs) ≡ Some (restored_part t)
restored_there [] t i = absurd (both_ways false refl i)
restored_there (x ∷ xs) t i = at (tx_same t x) refl (restored_there xs t)
  where
    at : (b : Bool) → tx_same t x ≡ b → (tx_in t xs ≡ true → tx_get t (restored_parts xs) ≡ Some (restored_part t)) → cond b (Some (restored_part x)) (tx_get t (restored_parts xs)) ≡ Some (restored_part t)
    at true e k = ap (λ z. Some (restored_part z)) (sym (tx_true t x e))
    at false e k = k (⊎_elim (λ h. absurd (both_ways _ e (tx_flip x t h))) (λ h. h) (or_cases (tx_same x t) (tx_in t xs) i))

abbrev pub IsThere : ℕ → Records → Type 0
IsThere q rs = record_at q rs ≡ None → ⊥

pub set_some : (q k : ℕ) (rs : Records) (b : Bool) (o : Option (Option ValueType)) → (b ≡ false → o ≡ None → ⊥) → cond b (Some None) o ≡ None → ⊥
set_some q k rs true o h e = absurd cc
set_some q k rs false o h e = h refl e

pub not_above : {V : Type 0} (t : TxId) (rs : Table V) → AllAbove t (keys_of rs) → tx_get t rs ≡ None
not_above t [] a = refl
not_above t (p ∷ ps) a = ap (λ c. cond (is_eq c) (Some p.1) (tx_get t ps)) a.0 ∙ not_above t ps a.1

pub preds_add : (x tx : TxId) (qs : List TxId) (pairs : List (TxId × TxId)) → tx_same x tx ≡ false → predecessors_of (add_pairs tx qs pairs) x ≡ predecessors_of pairs x
preds_add x tx [] pairs other = refl
preds_add x tx (q ∷ qs) pairs other = preds_add x tx qs (pair_insert (tx, q) pairs) other ∙ preds_insert x tx q pairs other

pub lock_case : (own p : Part) (txs : List TxId) (tx : TxId) (key : ℕ) (locks : Locks) (t : TxId) (q : ℕ) → holds true p (At q) t locks ≡ true → holds true p (At q) t (cond (tx_in tx txs) (take_one (At key) (shut_lock tx own) locks) locks) ≡ true
lock_case own p txs tx key locks t q h =
    cond_both (tx_in tx txs) (take_one (At key) (shut_lock tx own) locks) locks (λ l. holds true p (At q) t l ≡ true) (λ e. take_keeps true p (At q) t (At key) (shut_lock tx own) locks h) (λ e. h)

pub own_lock : (own p : Part) (txs : List TxId) (tx : TxId) (key : ℕ) (locks : Locks) (t : TxId) (q : ℕ) → least p own ≡ true → tx_in t txs ≡ true → (tx_same t tx && (q == key)) ≡ true
    → holds true p (At q) t (cond (tx_in tx txs) (take_one (At key) (shut_lock tx own) locks) locks) ≡ true
own_lock own p txs tx key locks t q l i e =
    let parts = and_parts (tx_same t tx) (q == key) e in
    let same : t ≡ tx = tx_true t tx parts.0 in
    let at : q ≡ key = eqb-true q key parts.1 in
    subst (λ l. holds true p (At q) t l ≡ true) (sym (cond-true (tx_in tx txs) (take_one (At key) (shut_lock tx own) locks) locks (subst (λ z. tx_in z txs ≡ true) same i)))
    (subst (λ z. holds true p (At q) z (take_one (At key) (shut_lock tx own) locks) ≡ true) (sym same) (subst (λ k. holds true p (At k) tx (take_one (At key) (shut_lock tx own) locks) ≡ true) (sym at) (take_gives true p (At key) (shut_lock tx own) locks l)))

pub ghost_keeps : (k q : ℕ) (rs : Records) (f : Found) → IsThere q rs → IsThere q (ghost_if_absent k rs f)
ghost_keeps k q rs (Live v) h = h
ghost_keeps k q rs Ghost h = h
ghost_keeps k q rs Absent h = λ e. set_some q k rs (q == k) (record_at q rs) (λ t. h) (sym (record_at_set q k None rs) ∙ e)

pub ghost_there : (k : ℕ) (rs : Records) (f : Found) → found_at k rs ≡ f → IsThere k (ghost_if_absent k rs f)
ghost_there k rs (Live v) e = λ n. live_not (sym (ap found_by n) ∙ e)
  where
    live_not : found_by None ≡ Live v → ⊥
    live_not f = absurd cc
ghost_there k rs Ghost e = λ n. ghost_not (sym (ap found_by n) ∙ e)
  where
    ghost_not : found_by None ≡ Ghost → ⊥
    ghost_not f = absurd cc
ghost_there k rs Absent e = λ n. set_some k k rs (k == k) (record_at k rs) (λ t. absurd (both_ways _ t (eq-eqb k k refl))) (sym (record_at_set k k None rs) ∙ n)

pub own_ghost : (txs : List TxId) (tx : TxId) (key : ℕ) (rs : Records) (t : TxId) (q : ℕ) → tx_in t txs ≡ true → (tx_same t tx && (q == key)) ≡ true → IsThere q (cond (tx_in tx txs) (ghost_if_absent key rs (found_at key rs)) rs)
own_ghost txs tx key rs t q i e =
    let p = and_parts (tx_same t tx) (q == key) e in
    subst (IsThere q) (sym (cond-true (tx_in tx txs) (ghost_if_absent key rs (found_at key rs)) rs (subst (λ z. tx_in z txs ≡ true) (tx_true t tx p.0) i)))
    (subst (λ k. IsThere k (ghost_if_absent key rs (found_at key rs))) (sym (eqb-true q key p.1)) (ghost_there key rs (found_at key rs) refl))

or_cond : (a b : Bool) → (a || b) ≡ cond a true b
or_cond true b = refl
or_cond false b = refl

pub in_inserted : (tx t : TxId) (xs : List TxId) → tx_in t (tx_insert tx xs) ≡ cond (tx_same tx t) true (tx_in t xs)
in_inserted tx t xs = tx_in-insert tx t xs ∙ or_cond (tx_same tx t) (tx_in t xs)
