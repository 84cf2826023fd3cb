-- A look that finds its transaction acknowledged is at the home of it: a session looks only where its request was taken.
use Rattle.std.proofs.Common.{◌≡◌, inl, inr, refl, sym, ap, subst, ◌∙◌, ℕ, true, false, cond, Bool, ◌&&◌, ◌==◌, List, [], ◌∷◌, ◌++◌, Option, Some, None, append_assoc, eqb-true}
use Rattle.std.specs.Map.{lookup}
use Rattle.std.proofs.lemmas.Bool.{both_ways, and_parts}
use Rattle.clv_base.specs.declared.names.TxId.{TxId}
use Rattle.clv_base.specs.declared.names.Birth.{Birth}
use Rattle.clv_base.specs.declared.ops.Op.{Op}
use Rattle.clv_base.specs.declared.logs.LogRecord.{LogRecord}
use Rattle.clv_base.specs.declared.events.Event.{Event}
use Rattle.clv_base.specs.declared.events.Event.TheVariants.{Op as OpEvent, RollTo, Request as RequestEvent, Look, Drop}
use Rattle.clv_base.specs.declared.events.Outcome.{Outcome}
use Rattle.clv_base.specs.declared.events.Outcome.TheVariants.{Answered, Asked, Acknowledged, Aborted, Dead}
use Rattle.clv_base.specs.declared.events.Entry.{Entry}
use Rattle.clv_base.specs.Orders.{tx_same}
use Rattle.clv_base.specs.LogRules.{same_option}
use Rattle.clv_base.specs.Restarts.{run_after}
use Rattle.clv_base.specs.Sessions.{Phase, Touching, Ended, Standing, Told, Refused, SessionState, no_session, is_number, lies_in, is_touching, same_birth, goes_on, begins, begun, session_for, op_answered, op_in_session, is_whole_now, same_touched, is_lowest, requested, looked, stands_at, after_drop, session_after, makes_from}
use Rattle.clv_base.specs.Journals.{History, own}
use Rattle.clv_base.specs.History.{Legal, is_acknowledgement}
use Rattle.clv_base.proofs.SameNames.{tx_true}
use Rattle.history_cases.proofs.Merging.{Placed, Among, among_left, among_right, among_is, in_own}
use Rattle.history_laws.proofs.Entries.GoingsBackOfSessions.{Back, no_back, went, died, back_after}
use Rattle.history_laws.proofs.NeverTakenBack.{session_of}
use Rattle.history_cases.proofs.Telling.{IsRequest}
use Rattle.fate_laws.specs.Decisions.{IsHome}

pub is_look : (t : TxId) (e : Event) (o : Outcome) → is_acknowledgement t e o ≡ true → (e ≡ Look t) × (o ≡ Acknowledged)
is_look t (Look tx) Acknowledged h = (ap Look (sym (tx_true t tx h)), refl)
is_look t (Look tx) _ h = absurd (both_ways false refl h)
is_look t _ o h = absurd (both_ways false refl h)

-- ---- where a session's transaction stands at a home, its request was taken there

abbrev AskedAmong : List Placed → TxId → ℕ → Type 0
AskedAmong es t m = (r : Entry) × (ts : List (ℕ × ℕ)) × Among (m, r) es × IsRequest t ts (m, r)

abbrev Asks : List Placed → SessionState → Type 0
Asks es s = (m : ℕ) → s.phase ≡ Standing m → AskedAmong es s.tx m

data Next (es : List Placed) : Option SessionState → Type 0 where
  gone : Next es None
  on : {s : SessionState} → Asks es s → Next es (Some s)

asked_on : (es : List Placed) (x : Placed) (t : TxId) (m : ℕ) → AskedAmong es t m → AskedAmong (es ++ x ∷ []) t m
asked_on es x t m (r, ts, i, a) = (r, ts, among_left (m, r) es (x ∷ []) i, a)

touching_not : (p : Phase) (m : ℕ) → is_touching p ≡ true → p ≡ Standing m → ⊥
touching_not p m h e = both_ways false refl (subst (λ z. is_touching z ≡ true) e h)

ended_not : (m : ℕ) → Ended ≡ Standing m → ⊥
ended_not m e = absurd cc

told_not : (m : ℕ) → Told ≡ Standing m → ⊥
told_not m e = absurd cc

refused_not : (m : ℕ) → Refused ≡ Standing m → ⊥
refused_not m e = absurd cc

drop_back : (p : Phase) (m : ℕ) → after_drop p ≡ Standing m → p ≡ Standing m
drop_back Touching m e = absurd (ended_not m e)
drop_back Ended m e = e
drop_back (Standing home) m e = e
drop_back Told m e = e
drop_back Refused m e = e

home_at : (n : ℕ) (p : Phase) → stands_at n p ≡ true → p ≡ Standing n
home_at n Touching h = absurd (both_ways false refl h)
home_at n Ended h = absurd (both_ways false refl h)
home_at n (Standing home) h = ap Standing (sym (eqb-true n home h))
home_at n Told h = absurd (both_ways false refl h)
home_at n Refused h = absurd (both_ways false refl h)

-- ---- one entry more

next_if : (es : List Placed) (b : Bool) (v : Option SessionState) → (b ≡ true → Next es v) → Next es (cond b v None)
next_if es true v k = k refl
next_if es false v k = gone

-- an operation finds a session that may have some
data Touches : Option SessionState → Type 0 where
  none : Touches None
  some : {s : SessionState} → is_touching s.phase ≡ true → Touches (Some s)

touches_if : (b : Bool) (s : SessionState) → (b ≡ true → is_touching s.phase ≡ true) → Touches (cond b (Some s) None)
touches_if true s k = some (k refl)
touches_if false s k = none

touches : (s : SessionState) (tx : TxId) (birth : Birth) (b : Bool) → Touches (cond b (cond (goes_on s tx birth) (Some s) None) (cond (begins s tx birth) (Some (begun s tx birth)) None))
touches s tx birth true = touches_if (goes_on s tx birth) s (λ e. (and_parts (is_touching s.phase) (same_birth s.birth birth) e).0)
touches s tx birth false = touches_if (begins s tx birth) (begun s tx birth) (λ e. refl)

next_answered : (es : List Placed) (n nth : ℕ) (op : Op) (s : SessionState) (o : Outcome) → is_touching s.phase ≡ true → Next es (op_answered n nth op s o)
next_answered es n nth op s (Answered a epoch) h = on (λ m e. absurd (touching_not s.phase m h e))
next_answered es n nth op s (Dead cause) h = on (λ m e. absurd (ended_not m e))
next_answered es n nth op s _ h = gone

next_op : (splits : List ℕ) (es : List Placed) (n nth : ℕ) (seen : Option ℕ) (op : Op) (o : Outcome) (v : Option SessionState) → Touches v → Next es (op_in_session splits n nth seen op o v)
next_op splits es n nth seen op o None k = gone
next_op splits es n nth seen op o (Some s) (some h) = next_if es (is_number s n nth op && lies_in splits n op && same_option seen (lookup (◌==◌ n) s.touched)) (op_answered n nth op s o) (λ e. next_answered es n nth op s o h)

-- a going back leaves a session that may have operations, or that is over
next_back : (es : List Placed) (s : SessionState) (tx : TxId) (n : ℕ) (o : Outcome) (v : Option SessionState) → Back s tx n o v → Next es v
next_back es s tx n o _ no_back = gone
next_back es s tx n _ _ (went m q f) = on (λ k e. absurd (touching_not s.phase k m.touching (sym f ∙ e)))
next_back es s tx n _ _ (died cause m q f) = on (λ k e. absurd (ended_not k (sym f ∙ e)))

next_request : (es : List Placed) (x : Placed) (tx : TxId) (ts : List (ℕ × ℕ)) (s : SessionState) (o : Outcome) → tx ≡ s.tx → (x.1).event ≡ RequestEvent tx ts → (x.1).outcome ≡ o → Next (es ++ x ∷ []) (requested x.0 s o)
next_request es x tx ts s Asked q ev out = on (λ m e. subst (AskedAmong (es ++ x ∷ []) s.tx) (named e) (x.1, ts, among_right x es (x ∷ []) (inl refl), (ev ∙ ap (λ z. RequestEvent z ts) q, out)))
  where
    named : {a b : ℕ} → Standing a ≡ Standing b → a ≡ b
    named z = cc
next_request es x tx ts s (Dead cause) q ev out = on (λ m e. absurd (ended_not m e))
next_request es x tx ts s _ q ev out = gone

next_look : (es : List Placed) (s : SessionState) (o : Outcome) → Next es (looked s o)
next_look es s Acknowledged = on (λ m e. absurd (told_not m e))
next_look es s (Aborted cause) = on (λ m e. absurd (refused_not m e))
next_look es s _ = gone

next : (splits : List ℕ) (es : List Placed) (x : Placed) (s : SessionState) (ev : Event) (o : Outcome) → (x.1).event ≡ ev → (x.1).outcome ≡ o → Asks es s → Next (es ++ x ∷ []) (session_after splits x.0 s ev o)
next splits es x s (OpEvent tx birth nth seen op) o ev out k = next_op splits (es ++ x ∷ []) x.0 nth seen op o (session_for s tx birth) (touches s tx birth (tx_same tx s.tx))
next splits es x s (RollTo tx nth seen upto) o ev out k = next_back (es ++ x ∷ []) s tx x.0 o _ (back_after splits x.0 s tx nth seen upto o)
next splits es x s (RequestEvent tx ts) o ev out k =
    next_if (es ++ x ∷ []) (tx_same tx s.tx && is_touching s.phase && is_whole_now s && same_touched ts s.touched && is_lowest x.0 ts) (requested x.0 s o)
    (λ e.
    let p = and_parts (tx_same tx s.tx && is_touching s.phase && is_whole_now s && same_touched ts s.touched) (is_lowest x.0 ts) e in
    let q = and_parts (tx_same tx s.tx && is_touching s.phase && is_whole_now s) (same_touched ts s.touched) p.0 in
    let r = and_parts (tx_same tx s.tx && is_touching s.phase) (is_whole_now s) q.0 in
    next_request es x tx ts s o (tx_true tx s.tx (and_parts (tx_same tx s.tx) (is_touching s.phase) r.0).0) ev out)
next splits es x s (Look tx) o ev out k = next_if (es ++ x ∷ []) (tx_same tx s.tx && stands_at x.0 s.phase) (looked s o) (λ e. next_look (es ++ x ∷ []) s o)
next splits es x s (Drop tx) o ev out k =
    next_if (es ++ x ∷ []) _ (Some (record s { phase = after_drop s.phase })) (λ e. on (λ m z. asked_on es x s.tx m (k m (drop_back s.phase m z))))
next splits es x s _ o ev out k = on (λ m e. asked_on es x s.tx m (k m e))

-- ---- a session

goes_on_by : (splits : List ℕ) (es xs : List Placed) (v : Option SessionState) {X : Type 0} → Next es v → makes_from splits v xs ≡ true → ((s : SessionState) → Asks es s → makes_from splits (Some s) xs ≡ true → X) → X
goes_on_by splits es xs None gone h k = absurd (both_ways false refl h)
goes_on_by splits es xs (Some s) (on a) h k = k s a h

looks_here : (splits : List ℕ) (es xs : List Placed) (s : SessionState) (n : ℕ) (t : TxId) (b : Bool) → (tx_same t s.tx && stands_at n s.phase) ≡ b → makes_from splits (cond b (looked s Acknowledged) None) xs ≡ true → Asks es s → AskedAmong es t n
looks_here splits es xs s n t true e h k =
    let p = and_parts (tx_same t s.tx) (stands_at n s.phase) e in
    subst (λ z. AskedAmong es z n) (sym (tx_true t s.tx p.0)) (k n (home_at n s.phase p.1))
looks_here splits es xs s n t false e h k = absurd (both_ways false refl h)

asked_in_session : (splits : List ℕ) (done es : List Placed) (s : SessionState) (y : Placed) (t : TxId) → Asks done s → makes_from splits (Some s) es ≡ true → Among y es → is_acknowledgement t (y.1).event (y.1).outcome ≡ true → AskedAmong (done ++ es) t y.0
asked_in_session splits done [] s y t k h i a = elim i [ ]
asked_in_session splits done (x ∷ xs) s y t k h (inl q) a =
    let l = is_look t (x.1).event (x.1).outcome (subst (λ (z : Placed). is_acknowledgement t (z.1).event (z.1).outcome ≡ true) (sym q) a) in
    let g = subst (λ o. makes_from splits (session_after splits x.0 s (Look t) o) xs ≡ true) l.1 (subst (λ v. makes_from splits (session_after splits x.0 s v (x.1).outcome) xs ≡ true) l.0 h) in
    let r = looks_here splits done xs s x.0 t (tx_same t s.tx && stands_at x.0 s.phase) refl g k in
    subst (AskedAmong (done ++ x ∷ xs) t) (ap (λ z. z.0) q) (r.0, r.1, among_left (x.0, r.0) done (x ∷ xs) r.2, r.3)
asked_in_session splits done (x ∷ xs) s y t k h (inr i) a =
    goes_on_by splits (done ++ x ∷ []) xs (session_after splits x.0 s (x.1).event (x.1).outcome) (next splits done x s (x.1).event (x.1).outcome refl refl k) h
    (λ u m g. subst (λ z. AskedAmong z t y.0) (append_assoc done (x ∷ []) xs) (asked_in_session splits (done ++ x ∷ []) xs u y t m g i a))

from_own : (w : ℕ) (h : History) (y : Placed) → Among y (own w h) → Among y h
from_own w [] y i = elim i [ ]
from_own w (x ∷ xs) y i = at ((x.1).walker == w) i (λ j. from_own w xs y j)
  where
    at : (b : Bool) → Among y (cond b (x ∷ own w xs) (own w xs)) → (Among y (own w xs) → Among y xs) → Among y (x ∷ xs)
    at true (inl e) k = inl e
    at true (inr j) k = inr (k j)
    at false j k = inr (k j)

pub told_at_home : (splits : List ℕ) (before : List (List LogRecord)) (h : History) (after : List (List LogRecord)) (y : Placed) (t : TxId) → Legal splits before h after → Among y h → is_acknowledgement t (y.1).event (y.1).outcome ≡ true → IsHome h t y.0
told_at_home splits before h after y t l i a =
    let w = (y.1).walker in
    let r = asked_in_session splits [] (own w h) (no_session (run_after before) w) y t (λ m e. absurd (ended_not m e)) (session_of splits before after h y l i) (in_own y h i) a in
    (r.0, r.1, among_is y.0 r.0 h (from_own w h (y.0, r.0) r.2), (r.3).0, (r.3).1)
