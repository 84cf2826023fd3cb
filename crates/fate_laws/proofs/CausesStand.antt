-- Each cause that is told stands in the history.
pub mod VotersAreParts
pub mod NoneRefusedAtRest
pub mod GoneEndedOrDoomed
pub mod EventsEndTheirOwn
pub mod NextFrontHasCauses
pub mod EntriesEndTheDying
pub mod FrontsHaveCauses
pub mod SeenWasAnswered
pub mod WhyOneDies
use Rattle.std.proofs.Common.{◌≡◌, ◌⊎◌, inl, inr, ⊎_elim, refl, sym, ap, subst, ◌∙◌, ℕ, ◌<◌, true, false, cond, Bool, List, [], ◌∷◌, ◌++◌, Option, Some, None, ◌==◌, arith, unwrap_or}
use Rattle.std.proofs.lemmas.Bool.{both_ways, cond-true, cond-false, eq-eqb, false_from_ne_true}
use Rattle.clv_base.specs.declared.names.TxId.{TxId}
use Rattle.clv_base.specs.declared.names.Birth.{Birth}
use Rattle.clv_base.specs.declared.ops.Op.{Op as Operation}
use Rattle.clv_base.specs.declared.causes.AbortCause.{AbortCause}
use Rattle.clv_base.specs.declared.causes.AbortCause.TheVariants.{Asked as AskedCause, Predecessor, Restarted}
use Rattle.clv_base.specs.declared.logs.LogRecord.{LogRecord}
use Rattle.clv_base.specs.declared.state.Stage.TheVariants.{Closed, Gone}
use Rattle.clv_base.specs.declared.events.Event.{Event}
use Rattle.clv_base.specs.declared.events.Event.TheVariants.{Op as OpEvent, Request as RequestEvent, RollTo}
use Rattle.clv_base.specs.declared.events.Outcome.{Outcome}
use Rattle.clv_base.specs.declared.events.Outcome.TheVariants.{Dead}
use Rattle.clv_base.specs.declared.events.Entry.{Entry}
use Rattle.clv_base.specs.Orders.{tx_same}
use Rattle.clv_base.specs.Shards.{shard_count}
use Rattle.clv_base.specs.LogRules.{log_of}
use Rattle.clv_base.specs.State.{Shard, Local}
use Rattle.clv_base.specs.Undo.{stage_of}
use Rattle.clv_base.specs.Coordinator.{doom_cause}
use Rattle.clv_base.specs.OneShard.{OpDies, op_reply}
use Rattle.clv_base.specs.Events.{epoch_in, is_asked_outcome, entry_request, request_epoch}
use Rattle.clv_base.specs.Sessions.{no_session}
use Rattle.clv_base.specs.Restarts.{run_after}
use Rattle.clv_base.specs.Journals.{History, EventMay, own}
use Rattle.clv_base.specs.History.{Legal, answered_epoch, WasAnswered, DoomedHere, DiedOf, CauseStands}
use Rattle.clv_base.proofs.SameNames.{tx_true, tx_self}
use Rattle.protocol_laws.specs.SessionLaws.{tx_of, works_on}
use Rattle.protocol_laws.proofs.SessionsKeepOrder.{sessions_keep_order}
use Rattle.law_base.proofs.Changed.{none_some, some_same}
use Rattle.history_cases.proofs.Entering.{Makes, by_event, by_flush, by_failure, by_restart, makes}
use Rattle.history_cases.proofs.Merging.{Placed, Among, among_is, from_journal, before_then, in_order, own_in_order, precedes_before}
use Rattle.history_laws.specs.Openings.{LegalFrom}
use Rattle.history_laws.proofs.NeverTakenBack.{walker_of, together}
use Rattle.history_cases.proofs.Stepping.{FindsIll, Step, op_dies, Happens, finishes, stops, roll_refused, roll_doomed, roll_late}
use Rattle.history_laws.proofs.Entries.NothingFollowsRequests.{nothing_follows}
use Rattle.history_cases.proofs.Worlds.{state_at}
use Rattle.history_laws.proofs.RequestsNameWhatAnswered.NamedShardsAnswered.{AnsweredAt}
use Rattle.fate_laws.proofs.History.EntriesInTurn.{Turn, Requested, turn_of, own_precedes, named_at, op_no_request, back_no_request}
use Rattle.fate_laws.proofs.Origins.DueKeepsOrigins.{SomeRequest, part_of}
use Rattle.fate_laws.proofs.Origins.FrontsKeepOrigins.{IsOld}
use Rattle.fate_laws.proofs.History.EntryByEntry.{next_at}
use Rattle.fate_laws.proofs.AbortedAreCommittedNowhere.{look_made}
use Rattle.fate_laws.specs.Causes.{TellsCause, op_died, going_back_died, request_died, look_found, IsOfAnother, CausesStand}
use Rattle.fate_laws.proofs.CausesStand.SeenWasAnswered.{lookup_row, seen_before, back_seen_before}
use Rattle.fate_laws.proofs.CausesStand.WhyOneDies.{OpWhy, unseen, closed, doomed, older, RequestWhy, late, fell, op_why, request_why, seen_other}
use Rattle.fate_laws.proofs.CausesStand.NextFrontHasCauses.{Ended, Fallen, GoneHow, RefusedHow, StateHow, Caused, fallen_more}
use Rattle.fate_laws.proofs.CausesStand.EntriesEndTheDying.{Before_entry}
use Rattle.fate_laws.proofs.CausesStand.FrontsHaveCauses.{before_entry, caused_front}
use Rattle.history_laws.proofs.Entries.WalkedEntryByEntry.{from_own, first_among}

-- ---- entries that answered

was_answered : (pre : History) (n : ℕ) (t : TxId) (epoch : ℕ) (y : Placed) → Among y pre → AnsweredAt y t n epoch → WasAnswered pre n t epoch
was_answered pre n t epoch y i a = (
  y.1,
  among_is n y.1 pre (subst (λ k. Among (k, y.1) pre) a.place i),
  ap (λ z. answered_epoch t z (y.1).outcome) a.event ∙ ap (answered_epoch t (OpEvent t a.birth a.nth a.seen a.op)) a.outcome ∙ cond-true (tx_same t t) (Some epoch) None (tx_self t),
)

-- ---- after its end a transaction does nothing

nothing_after : (splits : List ℕ) (before after : List (List LogRecord)) (h pre : History) (e : Placed) (t : TxId) → Before_entry splits before after h pre e → tx_of (e.1).event ≡ Some t → works_on t.serial (e.1).event ≡ true → Ended (run_after before) pre t → ⊥
nothing_after splits before after h pre e t w p q (inl (y, i, a, b)) =
    let o = own_precedes splits before after h y e t w.legal (turn_of h pre e y w.behind i) a p in
    let k = (sessions_keep_order splits (run_after before) (y.1).walker (own (y.1).walker h) o.1).2 in
    both_ways _ (nothing_follows (own (y.1).walker h) y e t.serial k o.0 b) q
nothing_after splits before after h pre e t w p q (inr o) = let z = (walker_of splits before after h e t w.legal (w.behind).here p).0 in omega (arith, o, z)

works_op : (e : Placed) (t : TxId) (b : Birth) (nth : ℕ) (seen : Option ℕ) (op : Operation) → (e.1).event ≡ OpEvent t b nth seen op → works_on t.serial (e.1).event ≡ true
works_op e t b nth seen op p = subst (λ z. works_on t.serial z ≡ true) (sym p) (eq-eqb t.serial t.serial refl)

works_request : (e : Placed) (t : TxId) (ts : List (ℕ × ℕ)) → (e.1).event ≡ RequestEvent t ts → works_on t.serial (e.1).event ≡ true
works_request e t ts p = subst (λ z. works_on t.serial z ≡ true) (sym p) (eq-eqb t.serial t.serial refl)

-- ---- the causes

abbrev Holds : List (List LogRecord) → History → List (List LogRecord) → Placed → TxId → AbortCause → Type 0
Holds before pre after e t c = CauseStands before pre after e t c × IsOfAnother t c

-- an abort that took it along
fell_here : (before after : List (List LogRecord)) (pre : History) (e : Placed) (t d : TxId) → Fallen before after pre e.0 t d → DoomedHere before (pre ++ e ∷ []) after e.0 t d
fell_here before after pre e t d f = let g = fallen_more before after pre e e.0 t d f in (g.0, g.2, g.3)

doomed_stands : (run : ℕ) (before after : List (List LogRecord)) (pre : History) (e : Placed) (t d : TxId) (c : AbortCause) → c ≡ doom_cause t d → (Ended run pre t → ⊥) → GoneHow run before after pre e.0 t d → Holds before pre after e t c
doomed_stands run before after pre e t d c q n (inl x) = absurd (n x.1)
doomed_stands run before after pre e t d c q n (inr x) =
    let other : tx_same t d ≡ false = false_from_ne_true (tx_same t d) (λ z. x.0 (tx_true t d z)) in
    subst (Holds before pre after e t) (sym (q ∙ cond-false (tx_same t d) AskedCause (Predecessor d) other)) (fell_here before after pre e t d x.1, x.0)

-- a restart since it was answered
restarted_stands : (before after : List (List LogRecord)) (pre : History) (e : Placed) (s : Shard) (t : TxId) (epoch : ℕ) (c : AbortCause) → s ≡ state_at before after e.0 pre → s.shard ≡ e.0 → c ≡ Restarted s.shard epoch s.local.epoch → (epoch == s.local.epoch) ≡ false → WasAnswered pre e.0 t epoch
    → Holds before pre after e t c
restarted_stands before after pre e s t epoch c k n q d a =
    subst (Holds before pre after e t) (sym (q ∙ ap (λ z. Restarted z epoch s.local.epoch) n))
    ((refl, a, ap (λ z. z.local.epoch) k, (λ f. both_ways (epoch == s.local.epoch) d (eq-eqb epoch s.local.epoch f))), tt)

-- ---- an operation

step_dies : (s t : Shard) {ev : Event} {o : Outcome} (tx : TxId) (birth : Birth) (nth : ℕ) (seen : Option ℕ) (op : Operation) (c : AbortCause) → Step s ev o t → ev ≡ OpEvent tx birth nth seen op → o ≡ Dead c → (l : Local) × (op_reply s.shard s.local tx birth seen op ≡ OpDies c l)
step_dies s _ tx birth nth seen op c (op_dies tx' birth' nth' seen' op' cause l f) p q = (l, cc)
step_dies s t tx birth nth seen op c _ p q = absurd cc

happens_dies : (s t : Shard) {ev : Event} {o : Outcome} (tx : TxId) (birth : Birth) (nth : ℕ) (seen : Option ℕ) (op : Operation) (c : AbortCause) → Happens s ev o t → ev ≡ OpEvent tx birth nth seen op → o ≡ Dead c → (l : Local) × (op_reply s.shard s.local tx birth seen op ≡ OpDies c l)
happens_dies s _ tx birth nth seen op c (finishes {t = u} z f) p q = step_dies s u tx birth nth seen op c f p q
happens_dies s _ tx birth nth seen op c (stops z) p q = absurd cc

op_made : (log : List LogRecord) (s t : Shard) {ev : Event} {o : Outcome} (tx : TxId) (birth : Birth) (nth : ℕ) (seen : Option ℕ) (op : Operation) (c : AbortCause) → Makes log s ev o t → ev ≡ OpEvent tx birth nth seen op → o ≡ Dead c
    → (l : Local) × (op_reply s.shard s.local tx birth seen op ≡ OpDies c l)
op_made log s t tx birth nth seen op c (by_event g h) p q = happens_dies s t tx birth nth seen op c h p q
op_made log s _ tx birth nth seen op c (by_flush n u f) p q = absurd cc
op_made log s _ tx birth nth seen op c (by_failure n u f) p q = absurd cc
op_made log s _ tx birth nth seen op c (by_restart epoch kept u g) p q = absurd cc

op_asked : (splits : List ℕ) (before after : List (List LogRecord)) (h pre : History) (e : Placed) (t : TxId) (b : Birth) (nth : ℕ) (seen : Option ℕ) (op : Operation) → Before_entry splits before after h pre e → (e.1).event ≡ OpEvent t b nth seen op
    → SomeRequest (Requested pre) (IsOld (run_after before)) t → ⊥
op_asked splits before after h pre e t b nth seen op w p (inl (n, r)) = op_no_request splits before after h pre e t b nth seen op n w.legal w.behind p r
op_asked splits before after h pre e t b nth seen op w p (inr o) = let z = (walker_of splits before after h e t w.legal (w.behind).here (ap tx_of p)).0 in omega (arith, o, z)

saw : (splits : List ℕ) (before after : List (List LogRecord)) (h pre : History) (e : Placed) (t : TxId) (b : Birth) (nth epoch : ℕ) (op : Operation) → Before_entry splits before after h pre e → (e.1).event ≡ OpEvent t b nth (Some epoch) op → WasAnswered pre e.0 t epoch
saw splits before after h pre e t b nth epoch op w p =
    let g = together splits before after h e e t w.legal (w.behind).here (w.behind).here (ap tx_of p) (ap tx_of p) in
    let v = own (e.1).walker h in
    let y = seen_before splits v (no_session (run_after before) (e.1).walker) e t b nth epoch op refl g.session g.first p in
    was_answered pre e.0 t epoch y.0 ((w.behind).earlier y.0 (from_own (e.1).walker y.0 h (first_among y.0 e v y.1)) (precedes_before y.0 e v (own_in_order (e.1).walker h (in_order h (w.legal).ordered)) y.1)) y.2

op_stands : (splits : List ℕ) (before after : List (List LogRecord)) (h pre : History) (e : Placed) (t : TxId) (b : Birth) (nth : ℕ) (seen : Option ℕ) (op : Operation) (c : AbortCause) → Before_entry splits before after h pre e
    → Caused (run_after before) before after pre e.0 (state_at before after e.0 pre) → (e.1).event ≡ OpEvent t b nth seen op → OpWhy (state_at before after e.0 pre).shard (state_at before after e.0 pre).local t b seen op c → Holds before pre after e t c
op_stands splits before after h pre e t b nth seen op c w k p (unseen f q) =
    let s = state_at before after e.0 pre in
    let z = seen_other s.local.epoch seen f in
    restarted_stands before after pre e s t z.0 c refl ((w.traced).origins).shard (q ∙ ap (λ x. Restarted s.shard (unwrap_or x 0) s.local.epoch) z.1) z.2
    (saw splits before after h pre e t b nth z.0 op w (p ∙ ap (λ x. OpEvent t b nth x op) z.1))
op_stands splits before after h pre e t b nth seen op c w k p (closed g) =
    let s = state_at before after e.0 pre in
    let o = (w.traced).origins in
    absurd (op_asked splits before after h pre e t b nth seen op w p (⊎_elim (λ x. (part_of e.0 s.local.epoch _ _ _ _ _ s t Closed o x).3) (λ x. (part_of e.0 s.local.epoch _ _ _ _ _ s t (Gone None) o x).3) g))
op_stands splits before after h pre e t b nth seen op c w k p (doomed d g q) =
    doomed_stands (run_after before) before after pre e t d c q (nothing_after splits before after h pre e t w (ap tx_of p) (works_op e t b nth seen op p)) (k.gone t d g)
op_stands splits before after h pre e t b nth seen op c w k p (older o g q) =
    subst (Holds before pre after e t) (sym q) (subst (λ z. DiedOf (state_at before after e.0 pre) z o) (sym p) g, tt)

-- ---- a going back

-- why one dies: in another epoch, or of a part that is gone, or of one that asked
data RollWhy (s : Shard) (t : TxId) (seen : ℕ) (c : AbortCause) : Type 0 where
  other_epoch : (seen == s.local.epoch) ≡ false → c ≡ Restarted s.shard seen s.local.epoch → RollWhy s t seen c
  doomed_part : (d : TxId) → stage_of s.local t ≡ Some (Gone (Some d)) → c ≡ doom_cause t d → RollWhy s t seen c
  asked_part : (stage_of s.local t ≡ Some (Gone None)) ⊎ (stage_of s.local t ≡ Some Closed) → RollWhy s t seen c

step_rolls : (s t : Shard) {ev : Event} {o : Outcome} (tx : TxId) (nth seen upto : ℕ) (c : AbortCause) → Step s ev o t → ev ≡ RollTo tx nth seen upto → o ≡ Dead c → RollWhy s tx seen c
step_rolls s _ tx nth seen upto c (roll_refused tx' nth' seen' upto' f) p q = other_epoch (subst (λ z. (z == s.local.epoch) ≡ false) (seen_of p) f) (cause_of q)
  where
    seen_of : RollTo tx' nth' seen' upto' ≡ RollTo tx nth seen upto → seen' ≡ seen
    seen_of p = cc

    cause_of : Dead (Restarted s.shard seen' s.local.epoch) ≡ Dead c → c ≡ Restarted s.shard seen s.local.epoch
    cause_of q = let e = seen_of p in cc
step_rolls s _ tx nth seen upto c (roll_doomed tx' nth' seen' upto' d f g) p q = doomed_part d (subst (λ z. stage_of s.local z ≡ Some (Gone (Some d))) (tx_is p) g) (cause_of q)
  where
    tx_is : RollTo tx' nth' seen' upto' ≡ RollTo tx nth seen upto → tx' ≡ tx
    tx_is p = cc

    same_cause : (a b : AbortCause) → Dead a ≡ Dead b → b ≡ a
    same_cause a b z = cc

    cause_of : Dead (doom_cause tx' d) ≡ Dead c → c ≡ doom_cause tx d
    cause_of q = same_cause (doom_cause tx' d) c q ∙ ap (λ z. doom_cause z d) (tx_is p)
step_rolls s _ tx nth seen upto c (roll_late tx' nth' seen' upto' f g) p q = asked_part (subst (λ z. (stage_of s.local z ≡ Some (Gone None)) ⊎ (stage_of s.local z ≡ Some Closed)) (tx_is p) g)
  where
    tx_is : RollTo tx' nth' seen' upto' ≡ RollTo tx nth seen upto → tx' ≡ tx
    tx_is p = cc
step_rolls s t tx nth seen upto c _ p q = absurd cc

happens_rolls : (s t : Shard) {ev : Event} {o : Outcome} (tx : TxId) (nth seen upto : ℕ) (c : AbortCause) → Happens s ev o t → ev ≡ RollTo tx nth seen upto → o ≡ Dead c → RollWhy s tx seen c
happens_rolls s _ tx nth seen upto c (finishes {t = u} z f) p q = step_rolls s u tx nth seen upto c f p q
happens_rolls s _ tx nth seen upto c (stops z) p q = absurd cc

roll_made : (log : List LogRecord) (s t : Shard) {ev : Event} {o : Outcome} (tx : TxId) (nth seen upto : ℕ) (c : AbortCause) → Makes log s ev o t → ev ≡ RollTo tx nth seen upto → o ≡ Dead c → RollWhy s tx seen c
roll_made log s t tx nth seen upto c (by_event g h) p q = happens_rolls s t tx nth seen upto c h p q
roll_made log s _ tx nth seen upto c (by_flush n u f) p q = absurd cc
roll_made log s _ tx nth seen upto c (by_failure n u f) p q = absurd cc
roll_made log s _ tx nth seen upto c (by_restart epoch kept u g) p q = absurd cc

back_asked : (splits : List ℕ) (before after : List (List LogRecord)) (h pre : History) (e : Placed) (t : TxId) (nth seen upto : ℕ) → Before_entry splits before after h pre e → (e.1).event ≡ RollTo t nth seen upto
    → SomeRequest (Requested pre) (IsOld (run_after before)) t → ⊥
back_asked splits before after h pre e t nth seen upto w p (inl (n, r)) = back_no_request splits before after h pre e t nth seen upto n w.legal w.behind p r
back_asked splits before after h pre e t nth seen upto w p (inr o) = let z = (walker_of splits before after h e t w.legal (w.behind).here (ap tx_of p)).0 in omega (arith, o, z)

back_saw : (splits : List ℕ) (before after : List (List LogRecord)) (h pre : History) (e : Placed) (t : TxId) (nth seen upto : ℕ) → Before_entry splits before after h pre e → (e.1).event ≡ RollTo t nth seen upto → WasAnswered pre e.0 t seen
back_saw splits before after h pre e t nth seen upto w p =
    let g = together splits before after h e e t w.legal (w.behind).here (w.behind).here (ap tx_of p) (ap tx_of p) in
    let v = own (e.1).walker h in
    let y = back_seen_before splits v (no_session (run_after before) (e.1).walker) e t nth seen upto refl g.session g.first p in
    was_answered pre e.0 t seen y.0 ((w.behind).earlier y.0 (from_own (e.1).walker y.0 h (first_among y.0 e v y.1)) (precedes_before y.0 e v (own_in_order (e.1).walker h (in_order h (w.legal).ordered)) y.1)) y.2

works_back : (e : Placed) (t : TxId) (nth seen upto : ℕ) → (e.1).event ≡ RollTo t nth seen upto → works_on t.serial (e.1).event ≡ true
works_back e t nth seen upto p = subst (λ z. works_on t.serial z ≡ true) (sym p) (eq-eqb t.serial t.serial refl)

back_stands : (splits : List ℕ) (before after : List (List LogRecord)) (h pre : History) (e : Placed) (t : TxId) (nth seen upto : ℕ) (c : AbortCause) → Before_entry splits before after h pre e
    → Caused (run_after before) before after pre e.0 (state_at before after e.0 pre) → (e.1).event ≡ RollTo t nth seen upto → RollWhy (state_at before after e.0 pre) t seen c → Holds before pre after e t c
back_stands splits before after h pre e t nth seen upto c w k p (other_epoch f q) =
    restarted_stands before after pre e (state_at before after e.0 pre) t seen c refl ((w.traced).origins).shard q f (back_saw splits before after h pre e t nth seen upto w p)
back_stands splits before after h pre e t nth seen upto c w k p (doomed_part d g q) =
    doomed_stands (run_after before) before after pre e t d c q (nothing_after splits before after h pre e t w (ap tx_of p) (works_back e t nth seen upto p)) (k.gone t d g)
back_stands splits before after h pre e t nth seen upto c w k p (asked_part g) =
    let s = state_at before after e.0 pre in
    let o = (w.traced).origins in
    absurd (back_asked splits before after h pre e t nth seen upto w p (⊎_elim (λ x. (part_of e.0 s.local.epoch _ _ _ _ _ s t (Gone None) o x).3) (λ x. (part_of e.0 s.local.epoch _ _ _ _ _ s t Closed o x).3) g))

-- ---- a request

-- what a request names was answered, before it
named : (splits : List ℕ) (before after : List (List LogRecord)) (h pre : History) (r : Placed) (t : TxId) (ts : List (ℕ × ℕ)) (n epoch : ℕ) → Legal splits before h after → Among r h → (r.1).event ≡ RequestEvent t ts → epoch_in n ts ≡ Some epoch
    → ((y : Placed) → Turn h y r → Among y pre) → WasAnswered pre n t epoch
named splits before after h pre r t ts n epoch l i p q k =
    let y = lookup_row (λ x. (y : Placed) × Turn h y r × AnsweredAt y t x.0 x.1) n epoch ts q (named_at splits before after h r t ts l i p).0 in was_answered pre n t epoch y.0 (k y.0 y.1) y.2

request_stands : (splits : List ℕ) (before after : List (List LogRecord)) (h pre : History) (e : Placed) (t : TxId) (ts : List (ℕ × ℕ)) (c : AbortCause) → Before_entry splits before after h pre e → Caused (run_after before) before after pre e.0 (state_at before after e.0 pre)
    → (e.1).event ≡ RequestEvent t ts → RequestWhy (state_at before after e.0 pre) t ts c → Holds before pre after e t c
request_stands splits before after h pre e t ts c w k p (late f q) =
    let s = state_at before after e.0 pre in
    let z = seen_other s.local.epoch (epoch_in s.shard ts) f in
    let n = ((w.traced).origins).shard in
    restarted_stands before after pre e s t z.0 c refl n (q ∙ ap (λ x. Restarted s.shard (unwrap_or x 0) s.local.epoch) z.1) z.2
    (named splits before after h pre e t ts e.0 z.0 w.legal (w.behind).here p (subst (λ m. epoch_in m ts ≡ Some z.0) n z.1) (λ y u. (w.behind).earlier y u.first u.before))
request_stands splits before after h pre e t ts c w k p (fell d g q) =
    doomed_stands (run_after before) before after pre e t d c q (nothing_after splits before after h pre e t w (ap tx_of p) (works_request e t ts p)) (k.gone t d g)

-- ---- a look

-- the request that a journal names
record Names (shard : ℕ) (t : TxId) (es : List Entry) (n : ℕ) : Type 0 where
  pub entry : Entry
  pub touched : List (ℕ × ℕ)
  pub here : Among entry es
  pub event : (entry).event ≡ RequestEvent t touched
  pub epoch : epoch_in shard touched ≡ Some n

names_event : (shard : ℕ) (t : TxId) (ev : Event) (n : ℕ) → entry_request shard t ev ≡ Some n → (ts : List (ℕ × ℕ)) × (ev ≡ RequestEvent t ts) × (epoch_in shard ts ≡ Some n)
names_event shard t (RequestEvent u ts) n q = by_name (tx_same t u) refl q
  where
    by_name : (b : Bool) → tx_same t u ≡ b → cond b (epoch_in shard ts) None ≡ Some n → (us : List (ℕ × ℕ)) × (RequestEvent u ts ≡ RequestEvent t us) × (epoch_in shard us ≡ Some n)
    by_name true f g = (ts, ap (λ z. RequestEvent z ts) (sym (tx_true t u f)), g)
    by_name false f g = absurd (none_some n g)
names_event shard t _ n q = absurd (none_some n q)

names_entry : (shard : ℕ) (t : TxId) (es : List Entry) (n : ℕ) → request_epoch shard t es ≡ Some n → Names shard t es n
names_entry shard t [] n e = absurd (none_some n e)
names_entry shard t (r ∷ rs) n e = at (cond (is_asked_outcome r.outcome) (entry_request shard t r.event) None) refl e (names_entry shard t rs n)
  where
    here : (b : Bool) (m : ℕ) → m ≡ n → cond b (entry_request shard t r.event) None ≡ Some m → Names shard t (r ∷ rs) n
    here true m f q = let w = names_event shard t r.event n (q ∙ ap (λ z. Some z) f) in record { entry = r; touched = w.0; here = inl refl; event = w.1; epoch = w.2 }
    here false m f q = absurd (none_some m q)

    later : Names shard t rs n → Names shard t (r ∷ rs) n
    later w = record { entry = w.entry; touched = w.touched; here = inr w.here; event = w.event; epoch = w.epoch }

    at : (o : Option ℕ) → cond (is_asked_outcome r.outcome) (entry_request shard t r.event) None ≡ o → ◌≡◌ {A = Option ℕ} (elim o [ Some k ↦ Some k | None ↦ request_epoch shard t rs ]) (Some n) → (request_epoch shard t rs ≡ Some n → Names shard t rs n) → Names shard t (r ∷ rs) n
    at None q f k = later (k f)
    at (Some m) q f k = here (is_asked_outcome r.outcome) m (some_same m n f) q

look_stands : (splits : List ℕ) (before after : List (List LogRecord)) (h pre : History) (e : Placed) (t : TxId) (c : AbortCause) → Before_entry splits before after h pre e → e.0 < shard_count splits → Caused (run_after before) before after pre e.0 (state_at before after e.0 pre)
    → FindsIll (state_at before after e.0 pre) t c → Holds before pre after e t c
look_stands splits before after h pre e t c w i k (inl (q, g, f)) = refused (subst (StateHow (run_after before) before after pre e.0 (state_at before after e.0 pre) t) f (k.rows t q g).state)
  where
    refused : RefusedHow before after pre e.0 t c → Holds before pre after e t c
    refused (inl (p, why, x, y)) =
        subst (Holds before pre after e t) (sym x) (((y.0).1, among_is e.0 (y.0).1 pre (subst (λ n. Among (n, (y.0).1) pre) y.2 y.1), y.3), tt)
    refused (inr (d, x, a, y)) = subst (Holds before pre after e t) (sym x) (fell_here before after pre e t d y, a)
look_stands splits before after h pre e t c w i k (inr (epoch, none, open_, found, differs, q)) =
    let s = state_at before after e.0 pre in
    let n = ((w.traced).origins).shard in
    let r = names_entry s.shard t s.journal epoch found in
    let j : Among (e.0, r.entry) pre = from_journal e.0 r.entry pre (subst (Among r.entry) ((w.spared).journal e.0 i) r.here) in
    let turn = (w.behind).turn (e.0, r.entry) j in
    restarted_stands before after pre e s t epoch c refl n q differs
    (named splits before after h pre (e.0, r.entry) t r.touched e.0 epoch w.legal turn.0 r.event (subst (λ m. epoch_in m r.touched ≡ Some epoch) n r.epoch)
    (λ y u. (w.behind).earlier y u.first (before_then y (e.0, r.entry) e u.before turn.1)))

-- ---- the law

tells : {splits : List ℕ} {before after : List (List LogRecord)} {h : History} → LegalFrom splits before h after → (pre : History) (e : Placed) (post : History) (t : TxId) (c : AbortCause) (ev : Event) (o : Outcome) → pre ++ e ∷ post ≡ h
    → (e.1).event ≡ ev → (e.1).outcome ≡ o → TellsCause ev o t c → Holds before pre after e t c
tells {splits} {before} {after} {h} l pre e post _ _ _ _ q p r (op_died t b nth seen op c) =
    let s = state_at before after e.0 pre in
    let x = next_at splits before after h pre e post l.legal q in
    let w = before_entry l pre e post q in
    let d = op_made (log_of after e.0) s _ t b nth seen op c (makes (log_of after e.0) s (e.1).event (e.1).outcome ((x.split).enters).event) p r in
    op_stands splits before after h pre e t b nth seen op c w (caused_front l pre (e ∷ post) e.0 q x.inside) p (op_why s.shard s.local d.0 t b seen op c d.1)
tells {splits} {before} {after} {h} l pre e post _ _ _ _ q p r (going_back_died t nth seen upto c) =
    let s = state_at before after e.0 pre in
    let x = next_at splits before after h pre e post l.legal q in
    let w = before_entry l pre e post q in
    back_stands splits before after h pre e t nth seen upto c w (caused_front l pre (e ∷ post) e.0 q x.inside) p
    (roll_made (log_of after e.0) s _ t nth seen upto c (makes (log_of after e.0) s (e.1).event (e.1).outcome ((x.split).enters).event) p r)
tells {splits} {before} {after} {h} l pre e post _ _ _ _ q p r (request_died t ts c) =
    let s = state_at before after e.0 pre in
    let x = next_at splits before after h pre e post l.legal q in
    let w = before_entry l pre e post q in
    let d : EventMay (log_of after e.0) s (RequestEvent t ts) (Dead c) = subst (λ z. EventMay (log_of after e.0) s (RequestEvent t ts) z) r (subst (λ z. EventMay (log_of after e.0) s z (e.1).outcome) p ((x.split).enters).event) in
    request_stands splits before after h pre e t ts c w (caused_front l pre (e ∷ post) e.0 q x.inside) p (request_why s d.0 t ts c d.1)
tells {splits} {before} {after} {h} l pre e post _ _ _ _ q p r (look_found t c) =
    let s = state_at before after e.0 pre in
    let x = next_at splits before after h pre e post l.legal q in
    let w = before_entry l pre e post q in
    look_stands splits before after h pre e t c w x.inside (caused_front l pre (e ∷ post) e.0 q x.inside)
    (look_made (log_of after e.0) s _ t c (makes (log_of after e.0) s (e.1).event (e.1).outcome ((x.split).enters).event) p r)

pub causes_stand : CausesStand
causes_stand splits before h after so_far rest e tx cause l q c = tells l so_far e rest tx cause (e.1).event (e.1).outcome q refl refl c
