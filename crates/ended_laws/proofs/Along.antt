-- Rows of requests that are over, along a legal history.
use Rattle.std.proofs.Common.{◌≡◌, ◌⊎◌, inl, inr, ⊎_elim, refl, ap, ◌∙◌, ℕ, ◌<◌, true, false, List, ◌∷◌, ◌++◌, arith}
use Rattle.std.proofs.lemmas.Bool.{false_from_ne_true}
use Rattle.clv_base.specs.declared.names.TxId.{TxId}
use Rattle.clv_base.specs.declared.logs.LogRecord.{LogRecord}
use Rattle.clv_base.specs.declared.events.Event.{Event}
use Rattle.clv_base.specs.declared.events.Event.TheVariants.{Op, RollTo, Request as RequestEvent, Look, Drop, Send, Deliver, Remind, FlushOut, FlushIn, Stop, Restart}
use Rattle.clv_base.specs.declared.events.Outcome.{Outcome}
use Rattle.clv_base.specs.declared.events.Outcome.TheVariants.{Durable}
use Rattle.clv_base.specs.declared.events.Entry.{Entry}
use Rattle.clv_base.specs.declared.state.Request.{Request}
use Rattle.clv_base.specs.State.{Shard}
use Rattle.clv_base.specs.Restarts.{run_after}
use Rattle.clv_base.specs.LogRules.{log_of}
use Rattle.clv_base.specs.Journals.{History, reply_state, flush_state, event_state}
use Rattle.clv_base.specs.History.{Legal, state_before}
use Rattle.clv_base.specs.Events.{Reply, QuietBeforeWorn, QuietAfterWorn, Does, happen, with_durable, with_entry, put_down}
use Rattle.history_cases.proofs.Merging.{among_right}
use Rattle.history_laws.proofs.NeverTakenBack.{walker_of}
use Rattle.fate_laws.specs.Origins.{WasAskedAt}
use Rattle.fate_laws.proofs.Origins.AllComesOfEntries.{all_comes_of_entries}
use Rattle.ended_laws.specs.Requests.{forgets, forgetful, IsOver, is_by_log, MayCome}
use Rattle.ended_laws.specs.Sessions.{works_for, asks_for, names}
use Rattle.ended_laws.specs.Histories.{RowsAreNotMissed}
use Rattle.ended_laws.proofs.Staying.{leaves_same, over_stays, finished_leaves, over_stays_over}
use Rattle.ended_laws.proofs.Due.{finished_same}
use Rattle.ended_laws.proofs.Missing.{nobody_misses_it}
use Rattle.ended_laws.proofs.Following.{works_of, no_work_follows_a_request, only_drops_follow_the_end, nothing_follows_a_later_one}

-- ---- what may come

may_come : (tx : TxId) (q : Request) (e : Event) → works_for tx e ≡ false → (is_by_log q.state ≡ true) ⊎ (asks_for tx e ≡ false) → MayCome tx q e
may_come tx q (Op t birth nth seen op) w a = w
may_come tx q (RollTo t nth seen upto) w a = w
may_come tx q (RequestEvent t ts) w a = w
may_come tx q (Look t) w (inl l) = inr l
may_come tx q (Look t) w (inr o) = inl o
may_come tx q (Drop t) w a = tt
may_come tx q Send w a = tt
may_come tx q (Deliver m stamp) w a = tt
may_come tx q Remind w a = tt
may_come tx q FlushOut w a = tt
may_come tx q FlushIn w a = tt
may_come tx q Stop w a = tt
may_come tx q Restart w a = tt

none_asks : (t : TxId) (e : Event) → names t e ≡ false → asks_for t e ≡ false
none_asks t (Op tx birth nth seen op) h = h
none_asks t (RollTo tx nth seen upto) h = h
none_asks t (RequestEvent tx ts) h = h
none_asks t (Look tx) h = h
none_asks t (Drop tx) h = refl
none_asks t Send h = refl
none_asks t (Deliver m stamp) h = refl
none_asks t Remind h = refl
none_asks t FlushOut h = refl
none_asks t FlushIn h = refl
none_asks t Stop h = refl
none_asks t Restart h = refl

no_work : (splits : List ℕ) (before after : List (List LogRecord)) (pre post : History) (n : ℕ) (e : Entry) (tx : TxId) → Legal splits before (pre ++ (n, e) ∷ post) after → WasAskedAt pre n tx ⊎ (tx.run < run_after before)
    → works_for tx e.event ≡ false
no_work splits before after pre post n e tx l (inl a) = no_work_follows_a_request splits before pre n e post after tx l (n, a.0, a.1, a.2)
no_work splits before after pre post n e tx l (inr f) = false_from_ne_true (works_for tx e.event) refuted
  where
    refuted : works_for tx e.event ≡ true → ⊥
    refuted w =
        let h = pre ++ (n, e) ∷ post in
        let r = (walker_of splits before after h (n, e) tx l (among_right (n, e) pre ((n, e) ∷ post) (inl refl)) (works_of tx e.event w).0).0 in
        omega (arith, f, r)

-- ---- what an entry leads to

same_state : (s : Shard) (tx : TxId) (r : Reply) → reply_state (forgets tx s) (forgetful tx r) ≡ forgets tx (reply_state s r)
same_state s tx (QuietBeforeWorn o) = refl
same_state s tx (QuietAfterWorn o) = refl
same_state s tx (Does o t) = refl

happens_same : (s : Shard) (tx : TxId) (q : Request) (e : Event) → IsOver s tx q → MayCome tx q e → reply_state (forgets tx s) (happen (forgets tx s) e) ≡ forgets tx (reply_state s (happen s e))
happens_same s tx q e o m = ap (reply_state (forgets tx s)) (nobody_misses_it s tx q e o m) ∙ same_state s tx (happen s e)

happens_over : (s : Shard) (tx : TxId) (q : Request) (e : Event) (r : Reply) → happen s e ≡ r → IsOver s tx q → MayCome tx q e → IsOver (reply_state s r) tx q
happens_over s tx q e (QuietBeforeWorn x) h o m = o
happens_over s tx q e (QuietAfterWorn x) h o m = o
happens_over s tx q e (Does x t) h o m = over_stays_over s t tx q e x o m h

landing : (n : ℕ) (s : Shard) (tx : TxId) (q : Request) → IsOver s tx q → IsOver (with_durable n s) tx q
landing n s tx q o = over_stays s (with_durable n s) tx q o refl o.rises refl (leaves_same tx s.local)

downed : (s : Shard) (tx : TxId) (q : Request) → IsOver s tx q → IsOver (put_down s) tx q
downed s tx q o = over_stays s (put_down s) tx q o refl o.rises refl (leaves_same tx s.local)

flush_same : (s : Shard) (tx : TxId) (q : Request) (o : Outcome) → IsOver s tx q → (flush_state (forgets tx s) o ≡ forgets tx (flush_state s o)) × IsOver (flush_state s o) tx q
flush_same s tx q (Durable n) o = (finished_same (with_durable n s) tx q (landing n s tx q o), finished_leaves (with_durable n s) tx q (landing n s tx q o))
flush_same s tx q _ o = (refl, downed s tx q o)

abbrev Goes : List LogRecord → Shard → TxId → Request → Event → Outcome → Type 0
Goes log s tx q e o = (event_state log (forgets tx s) e o ≡ forgets tx (event_state log s e o)) × IsOver (event_state log s e o) tx q

event_same : (log : List LogRecord) (s : Shard) (tx : TxId) (q : Request) (e : Event) (x : Outcome) → IsOver s tx q → MayCome tx q e → (e ≡ Restart → ⊥) → Goes log s tx q e x
event_same log s tx q FlushIn x o m n = flush_same s tx q x o
event_same log s tx q Restart x o m n = absurd (n refl)
event_same log s tx q (Op t birth nth seen op) x o m n = (happens_same s tx q (Op t birth nth seen op) o m, happens_over s tx q (Op t birth nth seen op) _ refl o m)
event_same log s tx q (RollTo t nth seen upto) x o m n = (happens_same s tx q (RollTo t nth seen upto) o m, happens_over s tx q (RollTo t nth seen upto) _ refl o m)
event_same log s tx q (RequestEvent t ts) x o m n = (happens_same s tx q (RequestEvent t ts) o m, happens_over s tx q (RequestEvent t ts) _ refl o m)
event_same log s tx q (Look t) x o m n = (happens_same s tx q (Look t) o m, happens_over s tx q (Look t) _ refl o m)
event_same log s tx q (Drop t) x o m n = (happens_same s tx q (Drop t) o m, happens_over s tx q (Drop t) _ refl o m)
event_same log s tx q Send x o m n = (happens_same s tx q Send o m, happens_over s tx q Send _ refl o m)
event_same log s tx q (Deliver z stamp) x o m n = (happens_same s tx q (Deliver z stamp) o m, happens_over s tx q (Deliver z stamp) _ refl o m)
event_same log s tx q Remind x o m n = (happens_same s tx q Remind o m, happens_over s tx q Remind _ refl o m)
event_same log s tx q FlushOut x o m n = (happens_same s tx q FlushOut o m, happens_over s tx q FlushOut _ refl o m)
event_same log s tx q Stop x o m n = (happens_same s tx q Stop o m, happens_over s tx q Stop _ refl o m)

entered : (stamp w : ℕ) (e : Event) (x : Outcome) (s : Shard) (tx : TxId) (q : Request) → IsOver s tx q → IsOver (with_entry stamp w e x s) tx q
entered stamp w e x s tx q o = over_stays s (with_entry stamp w e x s) tx q o refl o.rises refl (leaves_same tx s.local)

pub rows_are_not_missed : RowsAreNotMissed
rows_are_not_missed splits before pre n e post after tx q l lt o f r =
    let s = state_before before pre after n in
    let h = pre ++ (n, e) ∷ post in
    let c = (all_comes_of_entries splits before h after pre ((n, e) ∷ post) n l refl lt).coordinated tx q o.kept in
    let told : (is_by_log q.state ≡ true) ⊎ (asks_for tx e.event ≡ false) =
    ⊎_elim (λ a. inl a)
    (λ z. inr (⊎_elim (λ a. only_drops_follow_the_end splits before pre n e post after tx l.legal a) (λ b. none_asks tx e.event (nothing_follows_a_later_one splits before pre n e post after tx l.legal b)) z)) f in
    let g = event_same (log_of after n) s tx q e.event e.outcome o (may_come tx q e.event (no_work splits before after pre post n e tx l.legal c) told) r in
    (ap (with_entry e.stamp e.walker e.event e.outcome) g.0, entered e.stamp e.walker e.event e.outcome (event_state (log_of after n) s e.event e.outcome) tx q g.1)
