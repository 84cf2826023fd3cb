-- The numbers of a transaction's operations and goings back rise on each shard.
use Rattle.std.proofs.Common.{◌≡◌, ◌⊎◌, inl, inr, ⊎_elim, refl, sym, ap, subst, ◌∙◌, ℕ, suc, ◌<◌, ◌≤◌, true, false, cond, Bool, List, [], ◌∷◌, Option, Some, None, ◌&&◌, ◌==◌, nat_lt, arith, eqb-true}
use Rattle.std.specs.Prelude.{⊤}
use Rattle.std.specs.Map.{lookup}
use Rattle.std.proofs.lemmas.Bool.{both_ways, and_parts, or_cases, ltb-true}
use Rattle.clv_base.specs.declared.names.TxId.{TxId}
use Rattle.clv_base.specs.declared.names.Birth.{Birth}
use Rattle.clv_base.specs.declared.ops.Op.{Op}
use Rattle.clv_base.specs.declared.ops.Answer.{Answer}
use Rattle.clv_base.specs.declared.ops.Op.TheVariants.{Get, Put, Del, Scan, Add}
use Rattle.clv_base.specs.declared.logs.LogRecord.{LogRecord}
use Rattle.clv_base.specs.declared.events.Event.{Event}
use Rattle.clv_base.specs.declared.events.Event.TheVariants.{Op as OpEvent, RollTo, Request as RequestEvent, Look, Drop}
use Rattle.clv_base.specs.declared.events.Outcome.{Outcome}
use Rattle.clv_base.specs.declared.events.Outcome.TheVariants.{Answered, Rolled, Dead, Asked, Acknowledged, Aborted}
use Rattle.clv_base.specs.Orders.{tx_same}
use Rattle.clv_base.specs.LogRules.{same_option}
use Rattle.clv_base.specs.Sessions.{Phase, Touching, Ended, Standing, Told, Refused, SessionState, no_session, scan_shard, goes_on_scan, is_number, lies_in, is_touching, session_for, op_answered, op_in_session, goes_on_back, back_for, back_in_session, requested, looked, after_drop, session_after, makes_from}
use Rattle.clv_base.specs.Restarts.{run_after}
use Rattle.clv_base.specs.Journals.{History, own}
use Rattle.clv_base.specs.History.{Legal}
use Rattle.clv_base.proofs.SameNames.{tx_true}
use Rattle.protocol_laws.specs.SessionLaws.{tx_of}
use Rattle.history_cases.proofs.Merging.{Placed, Among, Precedes}
use Rattle.history_laws.proofs.RequestsNameWhatAnswered.SessionsFollowTheirOperations.{For, the_same, a_new_one, for_by}
use Rattle.fate_laws.proofs.History.EntriesInTurn.{Turn, own_precedes}

-- ---- a session whose transaction did something on a shard, with a number: what it does there later has a greater one

-- a shard from this one on, or none
abbrev From : ℕ → Option ℕ → Type 0
From n None = ⊤
From n (Some m) = n ≤ m

abbrev BackFrom : ℕ → Option (ℕ × ℕ) → Type 0
BackFrom n None = ⊤
BackFrom n (Some b) = n ≤ b.0

-- the session is beyond the transaction, or beyond the number, or at the number, which goes on to greater shards alone
data Past (tx : TxId) (n k : ℕ) (t : SessionState) : Type 0 where
  beyond : tx.serial < (t.tx).serial → Past tx n k t
  above : t.tx ≡ tx → k < t.nth → Past tx n k t
  at_it : t.tx ≡ tx → k ≡ t.nth → From n t.scanned → BackFrom n t.back → Past tx n k t

data PastIn (tx : TxId) (n k : ℕ) : Option SessionState → Type 0 where
  gone : PastIn tx n k None
  past : {t : SessionState} → Past tx n k t → PastIn tx n k (Some t)

past_if : (tx : TxId) (n k : ℕ) (b : Bool) (o : Option SessionState) → (b ≡ true → PastIn tx n k o) → PastIn tx n k (cond b o None)
past_if tx n k true o h = h refl
past_if tx n k false o h = gone

-- the same numbers
past_as : (tx : TxId) (n k : ℕ) (t u : SessionState) → u.tx ≡ t.tx → u.nth ≡ t.nth → u.scanned ≡ t.scanned → u.back ≡ t.back → Past tx n k t → Past tx n k u
past_as tx n k t u a b c d (beyond l) = beyond (subst (λ z. tx.serial < z.serial) (sym a) l)
past_as tx n k t u a b c d (above e l) = above (a ∙ e) (subst (λ z. k < z) (sym b) l)
past_as tx n k t u a b c d (at_it e l p q) = at_it (a ∙ e) (l ∙ sym b) (subst (From n) (sym c) p) (subst (BackFrom n) (sym d) q)

-- ---- an operation

scan_goes : (n m : ℕ) (o : Option ℕ) (op : Op) → goes_on_scan o (scan_shard m op) ≡ true → From n o → n < m
scan_goes n m None op e f = absurd (both_ways false refl e)
scan_goes n m (Some a) (Scan lo hi) e f = let l = ltb-true a m e in omega (arith, f, l)
scan_goes n m (Some a) (Get key) e f = absurd (both_ways false refl e)
scan_goes n m (Some a) (Put key v) e f = absurd (both_ways false refl e)
scan_goes n m (Some a) (Del key) e f = absurd (both_ways false refl e)
scan_goes n m (Some a) (Add key by) e f = absurd (both_ways false refl e)

scan_from : (n m : ℕ) (op : Op) → n ≤ m → From n (scan_shard m op)
scan_from n m (Scan lo hi) l = l
scan_from n m (Get key) l = tt
scan_from n m (Put key v) l = tt
scan_from n m (Del key) l = tt
scan_from n m (Add key by) l = tt

-- its number is greater, or its shard
number_next : (tx : TxId) (n k m nth : ℕ) (op : Op) (v : SessionState) → Past tx n k v → v.tx ≡ tx → is_number v m nth op ≡ true → (k < nth) ⊎ ((k ≡ nth) × (n < m) × BackFrom n v.back)
number_next tx n k m nth op v (beyond l) e i = absurd (let d = ap (λ z. z.serial) e in omega (arith, d, l))
number_next tx n k m nth op v (above q l) e i =
    ⊎_elim (λ f. inl (let g = eqb-true nth (suc v.nth) f in omega (arith, g, l))) (λ f. inl (let g = eqb-true nth v.nth (and_parts (nth == v.nth) _ f).0 in omega (arith, g, l)))
    (or_cases (nth == suc v.nth) ((nth == v.nth) && goes_on_scan v.scanned (scan_shard m op)) i)
number_next tx n k m nth op v (at_it q l f b) e i =
    ⊎_elim (λ g. inl (let d = eqb-true nth (suc v.nth) g in omega (arith, d, l)))
    (λ g. let p = and_parts (nth == v.nth) (goes_on_scan v.scanned (scan_shard m op)) g in inr (l ∙ sym (eqb-true nth v.nth p.0), scan_goes n m v.scanned op p.1 f, b))
    (or_cases (nth == suc v.nth) ((nth == v.nth) && goes_on_scan v.scanned (scan_shard m op)) i)

-- what the operation leaves
past_number : (tx : TxId) (n k m nth : ℕ) (op : Op) (v u : SessionState) → is_number v m nth op ≡ true → u.tx ≡ v.tx → u.nth ≡ nth → u.scanned ≡ scan_shard m op → (BackFrom n v.back → BackFrom n u.back) → Past tx n k v → Past tx n k u
past_number tx n k m nth op v u i a b c d (beyond l) = beyond (subst (λ z. tx.serial < z.serial) (sym a) l)
past_number tx n k m nth op v u i a b c d (above q l) = later (number_next tx n k m nth op v (above q l) q i)
  where
    later : (k < nth) ⊎ ((k ≡ nth) × (n < m) × BackFrom n v.back) → Past tx n k u
    later (inl r) = above (a ∙ q) (subst (λ z. k < z) (sym b) r)
    later (inr r) = at_it (a ∙ q) (r.0 ∙ sym b) (subst (From n) (sym c) (scan_from n m op (let w = r.1 in omega (arith, w)))) (d r.2)
past_number tx n k m nth op v u i a b c d (at_it q l f g) = later (number_next tx n k m nth op v (at_it q l f g) q i)
  where
    later : (k < nth) ⊎ ((k ≡ nth) × (n < m) × BackFrom n v.back) → Past tx n k u
    later (inl r) = above (a ∙ q) (subst (λ z. k < z) (sym b) r)
    later (inr r) = at_it (a ∙ q) (r.0 ∙ sym b) (subst (From n) (sym c) (scan_from n m op (let w = r.1 in omega (arith, w)))) (d r.2)

past_answered : (tx : TxId) (n k m nth : ℕ) (op : Op) (v : SessionState) (o : Outcome) → is_number v m nth op ≡ true → Past tx n k v → PastIn tx n k (op_answered m nth op v o)
past_answered tx n k m nth op v (Answered a epoch) i h = past (past_number tx n k m nth op v _ i refl refl refl (λ b. tt) h)
past_answered tx n k m nth op v (Dead cause) i h = past (past_number tx n k m nth op v _ i refl refl refl (λ b. b) h)
past_answered tx n k m nth op v _ i h = gone

past_found : (tx : TxId) (n k : ℕ) (t v : SessionState) (u : TxId) (birth : Birth) → Past tx n k t → For t u birth (Some v) → Past tx n k v
past_found tx n k t _ u birth h (the_same q r) = h
past_found tx n k t _ u birth (beyond l) (a_new_one g) = beyond (omega (arith, l, g))
past_found tx n k t _ u birth (above q l) (a_new_one g) = beyond (let d = ap (λ z. z.serial) q in omega (arith, d, g))
past_found tx n k t _ u birth (at_it q l f b) (a_new_one g) = beyond (let d = ap (λ z. z.serial) q in omega (arith, d, g))

past_op : (splits : List ℕ) (tx : TxId) (n k : ℕ) (t : SessionState) (u : TxId) (birth : Birth) (m nth : ℕ) (seen : Option ℕ) (op : Op) (o : Outcome) (v : Option SessionState) → Past tx n k t → For t u birth v
    → PastIn tx n k (op_in_session splits m nth seen op o v)
past_op splits tx n k t u birth m nth seen op o None h f = gone
past_op splits tx n k t u birth m nth seen op o (Some v) h f =
    past_if tx n k (is_number v m nth op && lies_in splits m op && same_option seen (lookup (◌==◌ m) v.touched)) _
    (λ e. past_answered tx n k m nth op v o (and_parts (is_number v m nth op) (lies_in splits m op) (and_parts (is_number v m nth op && lies_in splits m op) _ e).0).0 (past_found tx n k t v u birth h f))

-- ---- a going back

-- as it is found: with a new number, or under that of one on a lower shard
data BackFound (t : SessionState) (m nth upto : ℕ) : Option SessionState → Type 0 where
  nobody : BackFound t m nth upto None
  found_new : {u : SessionState} → u.tx ≡ t.tx → u.nth ≡ nth → u.scanned ≡ None → nth ≡ suc t.nth → BackFound t m nth upto (Some u)
  found_again : nth ≡ t.nth → goes_on_back t.back m upto ≡ true → BackFound t m nth upto (Some t)

found_by : (t : SessionState) (m nth upto : ℕ) (b : Bool) (o p : Option SessionState) → (b ≡ true → BackFound t m nth upto o) → (b ≡ false → BackFound t m nth upto p) → BackFound t m nth upto (cond b o p)
found_by t m nth upto true o p f g = f refl
found_by t m nth upto false o p f g = g refl

back_found : (t : SessionState) (m nth upto : ℕ) → BackFound t m nth upto (back_for t m nth upto)
back_found t m nth upto =
    found_by t m nth upto (nth == suc t.nth) _ _ (λ e. found_by t m nth upto (nat_lt upto nth) _ None (λ l. found_new refl refl refl (eqb-true nth (suc t.nth) e)) (λ l. nobody))
    (λ e. found_by t m nth upto ((nth == t.nth) && goes_on_back t.back m upto) _ None
    (λ f. let p = and_parts (nth == t.nth) (goes_on_back t.back m upto) f in found_again (eqb-true nth t.nth p.0) p.1) (λ f. nobody))

back_goes : (n m upto : ℕ) (o : Option (ℕ × ℕ)) → goes_on_back o m upto ≡ true → BackFrom n o → n < m
back_goes n m upto None e f = absurd (both_ways false refl e)
back_goes n m upto (Some b) e f = let l = ltb-true b.0 m (and_parts (nat_lt b.0 m) (b.1 == upto) e).0 in omega (arith, f, l)

-- with the shard of its entry
past_with : (tx : TxId) (n k m nth upto : ℕ) (t u w : SessionState) → BackFound t m nth upto (Some u) → w.tx ≡ u.tx → w.nth ≡ u.nth → w.scanned ≡ u.scanned → w.back ≡ Some (m, upto) → Past tx n k t → Past tx n k w
past_with tx n k m nth upto t u w (found_new a b c d) e f g h (beyond l) = beyond (subst (λ z. tx.serial < z.serial) (sym (e ∙ a)) l)
past_with tx n k m nth upto t u w (found_new a b c d) e f g h (above q l) = above (e ∙ a ∙ q) (subst (λ z. k < z) (sym (f ∙ b ∙ d)) (omega (arith, l)))
past_with tx n k m nth upto t u w (found_new a b c d) e f g h (at_it q l x y) = above (e ∙ a ∙ q) (subst (λ z. k < z) (sym (f ∙ b ∙ d)) (omega (arith, l)))
past_with tx n k m nth upto t _ w (found_again a b) e f g h (beyond l) = beyond (subst (λ z. tx.serial < z.serial) (sym e) l)
past_with tx n k m nth upto t _ w (found_again a b) e f g h (above q l) = above (e ∙ q) (subst (λ z. k < z) (sym f) l)
past_with tx n k m nth upto t _ w (found_again a b) e f g h (at_it q l x y) =
    at_it (e ∙ q) (l ∙ sym f) (subst (From n) (sym g) x) (subst (BackFrom n) (sym h) (let r = back_goes n m upto t.back b y in omega (arith, r)))

past_back : (tx : TxId) (n k m nth upto : ℕ) (t : SessionState) (o : Outcome) (v : Option SessionState) → BackFound t m nth upto v → Past tx n k t → PastIn tx n k (back_in_session m upto o v)
past_back tx n k m nth upto t o None f h = gone
past_back tx n k m nth upto t Rolled (Some u) f h = past (past_with tx n k m nth upto t u _ f refl refl refl refl h)
past_back tx n k m nth upto t (Dead cause) (Some u) f h = past (past_with tx n k m nth upto t u _ f refl refl refl refl h)
past_back tx n k m nth upto t _ (Some u) f h = gone

back_rises : (tx : TxId) (n k nth upto : ℕ) (t u : SessionState) → BackFound t n nth upto (Some u) → Past tx n k t → t.tx ≡ tx → k < nth
back_rises tx n k nth upto t u f (beyond l) e = absurd (let d = ap (λ z. z.serial) e in omega (arith, d, l))
back_rises tx n k nth upto t u (found_new a b c d) (above q l) e = omega (arith, d, l)
back_rises tx n k nth upto t u (found_new a b c d) (at_it q l x y) e = omega (arith, d, l)
back_rises tx n k nth upto t _ (found_again a b) (above q l) e = omega (arith, a, l)
back_rises tx n k nth upto t _ (found_again a b) (at_it q l x y) e = absurd (let r = back_goes n n upto t.back b y in omega (arith, r))

-- ---- each entry

past_request : (tx : TxId) (n k : ℕ) (t : SessionState) (m : ℕ) (o : Outcome) → Past tx n k t → PastIn tx n k (requested m t o)
past_request tx n k t m Asked h = past (past_as tx n k t _ refl refl refl refl h)
past_request tx n k t m (Dead cause) h = past (past_as tx n k t _ refl refl refl refl h)
past_request tx n k t m _ h = gone

past_look : (tx : TxId) (n k : ℕ) (t : SessionState) (o : Outcome) → Past tx n k t → PastIn tx n k (looked t o)
past_look tx n k t Acknowledged h = past (past_as tx n k t _ refl refl refl refl h)
past_look tx n k t (Aborted cause) h = past (past_as tx n k t _ refl refl refl refl h)
past_look tx n k t _ h = gone

past_next : (splits : List ℕ) (tx : TxId) (n k m : ℕ) (t : SessionState) (e : Event) (o : Outcome) → Past tx n k t → PastIn tx n k (session_after splits m t e o)
past_next splits tx n k m t (OpEvent u birth nth seen op) o h = past_op splits tx n k t u birth m nth seen op o (session_for t u birth) h (for_by t u birth (tx_same u t.tx) refl)
past_next splits tx n k m t (RollTo u nth seen upto) o h = past_if tx n k _ _ (λ e. past_back tx n k m nth upto t o (back_for t m nth upto) (back_found t m nth upto) h)
past_next splits tx n k m t (RequestEvent u ts) o h = past_if tx n k _ _ (λ e. past_request tx n k t m o h)
past_next splits tx n k m t (Look u) o h = past_if tx n k _ _ (λ e. past_look tx n k t o h)
past_next splits tx n k m t (Drop u) o h = past_if tx n k _ _ (λ e. past (past_as tx n k t _ refl refl refl refl h))
past_next splits tx n k m t _ o h = past h

past_goes : (splits : List ℕ) (tx : TxId) (n k : ℕ) (v : Option SessionState) (es : List Placed) {R : Type 0} → PastIn tx n k v → makes_from splits v es ≡ true → ((u : SessionState) → Past tx n k u → makes_from splits (Some u) es ≡ true → R) → R
past_goes splits tx n k None es gone h f = absurd (both_ways false refl h)
past_goes splits tx n k (Some u) es (past p) h f = f u p h

-- ---- what it did first: its session didn't go on by a part scan and by a going back at once

data Apart (t : SessionState) : Type 0 where
  no_back : t.back ≡ None → Apart t
  no_scan : t.scanned ≡ None → Apart t
  over : is_touching t.phase ≡ false → Apart t

data ApartIn : Option SessionState → Type 0 where
  nowhere : ApartIn None
  apart_in : {t : SessionState} → Apart t → ApartIn (Some t)

apart_if : (b : Bool) (o : Option SessionState) → (b ≡ true → ApartIn o) → ApartIn (cond b o None)
apart_if true o h = h refl
apart_if false o h = nowhere

apart_answered : (m nth : ℕ) (op : Op) (v : SessionState) (o : Outcome) → ApartIn (op_answered m nth op v o)
apart_answered m nth op v (Answered a epoch) = apart_in (no_back refl)
apart_answered m nth op v (Dead cause) = apart_in (over refl)
apart_answered m nth op v _ = nowhere

apart_op : (splits : List ℕ) (m nth : ℕ) (seen : Option ℕ) (op : Op) (o : Outcome) (v : Option SessionState) → ApartIn (op_in_session splits m nth seen op o v)
apart_op splits m nth seen op o None = nowhere
apart_op splits m nth seen op o (Some v) = apart_if _ _ (λ e. apart_answered m nth op v o)

-- a going back finds no part scan
unscanned : (t : SessionState) (m upto : ℕ) → Apart t → is_touching t.phase ≡ true → goes_on_back t.back m upto ≡ true → t.scanned ≡ None
unscanned t m upto (no_back e) p g = absurd (both_ways false refl (subst (λ z. goes_on_back z m upto ≡ true) e g))
unscanned t m upto (no_scan e) p g = e
unscanned t m upto (over e) p g = absurd (both_ways _ e p)

back_unscanned : (t : SessionState) (m nth upto : ℕ) (u : SessionState) → Apart t → is_touching t.phase ≡ true → BackFound t m nth upto (Some u) → (u.scanned ≡ None) × (u.nth ≡ nth) × (u.tx ≡ t.tx)
back_unscanned t m nth upto u h p (found_new a b c d) = (c, b, a)
back_unscanned t m nth upto _ h p (found_again a b) = (unscanned t m upto h p b, sym a, refl)

apart_back : (t : SessionState) (m nth upto : ℕ) (o : Outcome) (v : Option SessionState) → Apart t → is_touching t.phase ≡ true → BackFound t m nth upto v → ApartIn (back_in_session m upto o v)
apart_back t m nth upto o None h p f = nowhere
apart_back t m nth upto Rolled (Some u) h p f = apart_in (no_scan (back_unscanned t m nth upto u h p f).0)
apart_back t m nth upto (Dead cause) (Some u) h p f = apart_in (over refl)
apart_back t m nth upto _ (Some u) h p f = nowhere

apart_request : (t : SessionState) (m : ℕ) (o : Outcome) → ApartIn (requested m t o)
apart_request t m Asked = apart_in (over refl)
apart_request t m (Dead cause) = apart_in (over refl)
apart_request t m _ = nowhere

apart_look : (t : SessionState) (o : Outcome) → ApartIn (looked t o)
apart_look t Acknowledged = apart_in (over refl)
apart_look t (Aborted cause) = apart_in (over refl)
apart_look t _ = nowhere

dropped_phase : (p : Phase) → is_touching (after_drop p) ≡ false
dropped_phase Touching = refl
dropped_phase Ended = refl
dropped_phase (Standing home) = refl
dropped_phase Told = refl
dropped_phase Refused = refl

-- what a going back needs
goes_back : (t : SessionState) (u : TxId) (m seen : ℕ) → (tx_same u t.tx && is_touching t.phase && same_option (Some seen) (lookup (◌==◌ m) t.touched)) ≡ true → (u ≡ t.tx) × (is_touching t.phase ≡ true)
goes_back t u m seen e = let p = and_parts (tx_same u t.tx) (is_touching t.phase) (and_parts (tx_same u t.tx && is_touching t.phase) _ e).0 in (tx_true u t.tx p.0, p.1)

apart_next : (splits : List ℕ) (m : ℕ) (t : SessionState) (e : Event) (o : Outcome) → Apart t → ApartIn (session_after splits m t e o)
apart_next splits m t (OpEvent u birth nth seen op) o h = apart_op splits m nth seen op o (session_for t u birth)
apart_next splits m t (RollTo u nth seen upto) o h = apart_if _ _ (λ e. apart_back t m nth upto o (back_for t m nth upto) h (goes_back t u m seen e).1 (back_found t m nth upto))
apart_next splits m t (RequestEvent u ts) o h = apart_if _ _ (λ e. apart_request t m o)
apart_next splits m t (Look u) o h = apart_if _ _ (λ e. apart_look t o)
apart_next splits m t (Drop u) o h = apart_if _ _ (λ e. apart_in (over (dropped_phase t.phase)))
apart_next splits m t _ o h = apart_in h

-- ---- what was done, and what has a number

-- the entry is an operation of the transaction that was answered, or its going back, with this number
abbrev pub DoneAs : TxId → ℕ → Event → Outcome → Type 0
DoneAs t k (OpEvent tx birth nth seen op) (Answered a m) = (tx ≡ t) × (nth ≡ k)
DoneAs t k (OpEvent tx birth nth seen op) _ = ⊥
DoneAs t k (RollTo tx nth seen upto) Rolled = (tx ≡ t) × (nth ≡ k)
DoneAs t k (RollTo tx nth seen upto) _ = ⊥
DoneAs t k _ o = ⊥

abbrev pub NumberedAs : TxId → ℕ → Event → Type 0
NumberedAs t k (OpEvent tx birth nth seen op) = (tx ≡ t) × (nth ≡ k)
NumberedAs t k (RollTo tx nth seen upto) = (tx ≡ t) × (nth ≡ k)
NumberedAs t k _ = ⊥

done_tx : (t : TxId) (k : ℕ) (e : Event) (o : Outcome) → DoneAs t k e o → tx_of e ≡ Some t
done_tx t k (OpEvent tx birth nth seen op) (Answered a m) d = ap (λ z. Some z) d.0
done_tx t k (OpEvent tx birth nth seen op) _ d = elim d [ ]
done_tx t k (RollTo tx nth seen upto) Rolled d = ap (λ z. Some z) d.0
done_tx t k (RollTo tx nth seen upto) _ d = elim d [ ]
done_tx t k _ o d = elim d [ ]

numbered_tx : (t : TxId) (k : ℕ) (e : Event) → NumberedAs t k e → tx_of e ≡ Some t
numbered_tx t k (OpEvent tx birth nth seen op) d = ap (λ z. Some z) d.0
numbered_tx t k (RollTo tx nth seen upto) d = ap (λ z. Some z) d.0
numbered_tx t k _ d = elim d [ ]

for_tx : (t v : SessionState) (u : TxId) (birth : Birth) → For t u birth (Some v) → v.tx ≡ u
for_tx t _ u birth (the_same q r) = sym q
for_tx t _ u birth (a_new_one g) = refl

-- the first one leaves its session past it
first_op : (n k : ℕ) (t : SessionState) (tx : TxId) (birth : Birth) (seen : Option ℕ) (op : Op) (a : Answer) (epoch : ℕ) (splits : List ℕ) (v : Option SessionState) → For t tx birth v → PastIn tx n k (op_in_session splits n k seen op (Answered a epoch) v)
first_op n k t tx birth seen op a epoch splits None f = gone
first_op n k t tx birth seen op a epoch splits (Some v) f = past_if tx n k _ _ (λ e. past (at_it (for_tx t v tx birth f) refl (scan_from n n op (omega arith)) tt))

first_back : (n k upto : ℕ) (t : SessionState) (tx : TxId) (v : Option SessionState) → Apart t → tx ≡ t.tx → is_touching t.phase ≡ true → BackFound t n k upto v → PastIn tx n k (back_in_session n upto Rolled v)
first_back n k upto t tx None h q p f = gone
first_back n k upto t tx (Some u) h q p f = let r = back_unscanned t n k upto u h p f in past (at_it (r.2 ∙ sym q) (sym r.1) (subst (From n) (sym r.0) tt) (omega arith))

first_past : (splits : List ℕ) (n k : ℕ) (t : SessionState) (tx : TxId) (e : Event) (o : Outcome) → Apart t → DoneAs tx k e o → PastIn tx n k (session_after splits n t e o)
first_past splits n k t tx (OpEvent u birth nth seen op) (Answered a m) h d =
    subst (λ z. PastIn z n k (op_in_session splits n nth seen op (Answered a m) (session_for t u birth))) d.0
    (subst (λ z. PastIn u n z (op_in_session splits n nth seen op (Answered a m) (session_for t u birth))) d.1
    (first_op n nth t u birth seen op a m splits (session_for t u birth) (for_by t u birth (tx_same u t.tx) refl)))
first_past splits n k t tx (OpEvent u birth nth seen op) _ h d = elim d [ ]
first_past splits n k t tx (RollTo u nth seen upto) Rolled h d =
    subst (λ z. PastIn z n k (session_after splits n t (RollTo u nth seen upto) Rolled)) d.0
    (subst (λ z. PastIn u n z (session_after splits n t (RollTo u nth seen upto) Rolled)) d.1
    (past_if u n nth _ _ (λ e. let g = goes_back t u n seen e in first_back n nth upto t u (back_for t n nth upto) h g.0 g.1 (back_found t n nth upto))))
first_past splits n k t tx (RollTo u nth seen upto) _ h d = elim d [ ]
first_past splits n k t tx _ o h d = elim d [ ]

-- a later one has a greater number
none_made : {R : Type 0} (splits : List ℕ) (es : List Placed) → makes_from splits None es ≡ true → R
none_made splits [] h = absurd (both_ways false refl h)
none_made splits (e ∷ es) h = absurd (both_ways false refl h)

op_rises : (splits : List ℕ) (n k nth : ℕ) (t : SessionState) (tx : TxId) (birth : Birth) (seen : Option ℕ) (op : Op) (o : Outcome) (v : Option SessionState) (es : List Placed) → Past tx n k t → For t tx birth v → makes_from splits (op_in_session splits n nth seen op o v) es ≡ true → k < nth
op_rises splits n k nth t tx birth seen op o None es h f m = none_made splits es m
op_rises splits n k nth t tx birth seen op o (Some v) es h f m = at (is_number v n nth op && lies_in splits n op && same_option seen (lookup (◌==◌ n) v.touched)) refl m
  where
    at : (b : Bool) → (is_number v n nth op && lies_in splits n op && same_option seen (lookup (◌==◌ n) v.touched)) ≡ b → makes_from splits (cond b (op_answered n nth op v o) None) es ≡ true → k < nth
    at true e g =
        ⊎_elim (λ l. l) (λ r. absurd (let l = r.1 in omega (arith, l)))
        (number_next tx n k n nth op v (past_found tx n k t v tx birth h f) (for_tx t v tx birth f) (and_parts (is_number v n nth op) (lies_in splits n op) (and_parts (is_number v n nth op && lies_in splits n op) _ e).0).0)
    at false e g = none_made splits es g

rolls_rise : (splits : List ℕ) (n k nth seen upto : ℕ) (t : SessionState) (tx : TxId) (o : Outcome) (es : List Placed) → Past tx n k t → makes_from splits (session_after splits n t (RollTo tx nth seen upto) o) es ≡ true → k < nth
rolls_rise splits n k nth seen upto t tx o es h m = at (tx_same tx t.tx && is_touching t.phase && same_option (Some seen) (lookup (◌==◌ n) t.touched)) refl m
  where
    by : (v : Option SessionState) → BackFound t n nth upto v → t.tx ≡ tx → makes_from splits (back_in_session n upto o v) es ≡ true → k < nth
    by None f q g = none_made splits es g
    by (Some u) f q g = back_rises tx n k nth upto t u f h q

    at : (b : Bool) → (tx_same tx t.tx && is_touching t.phase && same_option (Some seen) (lookup (◌==◌ n) t.touched)) ≡ b → makes_from splits (cond b (back_in_session n upto o (back_for t n nth upto)) None) es ≡ true → k < nth
    at true e g = by (back_for t n nth upto) (back_found t n nth upto) (sym (goes_back t tx n seen e).0) g
    at false e g = none_made splits es g

next_rises : (splits : List ℕ) (n k nth : ℕ) (t : SessionState) (tx : TxId) (e : Event) (o : Outcome) (es : List Placed) → Past tx n k t → NumberedAs tx nth e → makes_from splits (session_after splits n t e o) es ≡ true → k < nth
next_rises splits n k nth t tx (OpEvent u birth i seen op) o es h d m =
    subst (λ z. k < z) d.1 (op_rises splits n k i t u birth seen op o (session_for t u birth) es (subst (λ z. Past z n k t) (sym d.0) h) (for_by t u birth (tx_same u t.tx) refl) m)
next_rises splits n k nth t tx (RollTo u i seen upto) o es h d m = subst (λ z. k < z) d.1 (rolls_rise splits n k i seen upto t u o es (subst (λ z. Past z n k t) (sym d.0) h) m)
next_rises splits n k nth t tx _ o es h d m = elim d [ ]

later_rises : (splits : List ℕ) (es : List Placed) (t : SessionState) (x : Placed) (tx : TxId) (k nth : ℕ) → Past tx x.0 k t → makes_from splits (Some t) es ≡ true → Among x es → NumberedAs tx nth (x.1).event → k < nth
later_rises splits [] t x tx k nth h m i d = elim i [ ]
later_rises splits (z ∷ zs) t x tx k nth h m (inl i) d =
    next_rises splits x.0 k nth t tx (x.1).event (x.1).outcome zs h d (subst (λ w. makes_from splits (session_after splits w.0 t (w.1).event (w.1).outcome) zs ≡ true) i m)
later_rises splits (z ∷ zs) t x tx k nth h m (inr i) d =
    past_goes splits tx x.0 k (session_after splits z.0 t (z.1).event (z.1).outcome) zs (past_next splits tx x.0 k z.0 t (z.1).event (z.1).outcome h) m (λ u p g. later_rises splits zs u x tx k nth p g i d)

apart_goes : (splits : List ℕ) (v : Option SessionState) (es : List Placed) {R : Type 0} → ApartIn v → makes_from splits v es ≡ true → ((u : SessionState) → Apart u → makes_from splits (Some u) es ≡ true → R) → R
apart_goes splits None es nowhere h f = none_made splits es h
apart_goes splits (Some u) es (apart_in r) h f = f u r h

session_rises : (splits : List ℕ) (es : List Placed) (t : SessionState) (y x : Placed) (tx : TxId) (k nth : ℕ) → Apart t → makes_from splits (Some t) es ≡ true → Precedes y x es → y.0 ≡ x.0 → DoneAs tx k (y.1).event (y.1).outcome → NumberedAs tx nth (x.1).event → k < nth
session_rises splits [] t y x tx k nth h m p q d e = elim p [ ]
session_rises splits (z ∷ zs) t y x tx k nth h m (inl p) q d e =
    past_goes splits tx x.0 k (session_after splits y.0 t (y.1).event (y.1).outcome) zs
    (subst (λ n. PastIn tx n k (session_after splits y.0 t (y.1).event (y.1).outcome)) q (first_past splits y.0 k t tx (y.1).event (y.1).outcome h d))
    (subst (λ w. makes_from splits (session_after splits w.0 t (w.1).event (w.1).outcome) zs ≡ true) p.0 m) (λ u r g. later_rises splits zs u x tx k nth r g p.1 e)
session_rises splits (z ∷ zs) t y x tx k nth h m (inr p) q d e =
    apart_goes splits (session_after splits z.0 t (z.1).event (z.1).outcome) zs (apart_next splits z.0 t (z.1).event (z.1).outcome h) m (λ u r g. session_rises splits zs u y x tx k nth r g p q d e)

-- ---- in a history

pub numbers_rise : (splits : List ℕ) (before after : List (List LogRecord)) (h : History) (y x : Placed) (tx : TxId) (k nth : ℕ) → Legal splits before h after → Turn h y x → y.0 ≡ x.0 → DoneAs tx k (y.1).event (y.1).outcome → NumberedAs tx nth (x.1).event → k < nth
numbers_rise splits before after h y x tx k nth l c q d e =
    let p = own_precedes splits before after h y x tx l c (done_tx tx k (y.1).event (y.1).outcome d) (numbered_tx tx nth (x.1).event e) in
    session_rises splits (own (y.1).walker h) (no_session (run_after before) (y.1).walker) y x tx k nth (no_back refl) p.1 p.0 q d e
