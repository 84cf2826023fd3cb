-- Rows of parts that are past, along a legal history.
use Rattle.std.proofs.Common.{◌≡◌, inl, inr, ⊎_elim, refl, sym, ap, subst, ◌∙◌, ℕ, true, false, List, ◌∷◌, ◌++◌, None}
use Rattle.std.proofs.lemmas.Bool.{false_from_ne_true}
use Rattle.clv_base.specs.declared.names.TxId.{TxId}
use Rattle.clv_base.specs.declared.logs.LogRecord.{LogRecord}
use Rattle.clv_base.specs.declared.events.Event.{Event}
use Rattle.clv_base.specs.declared.events.Event.TheVariants.{Op, RollTo, Request as RequestEvent, Look, Drop, Send, Deliver, Remind, FlushOut, FlushIn, Stop, Restart}
use Rattle.clv_base.specs.declared.events.Outcome.{Outcome}
use Rattle.clv_base.specs.declared.events.Outcome.TheVariants.{Durable}
use Rattle.clv_base.specs.declared.events.Entry.{Entry}
use Rattle.clv_base.specs.State.{Shard}
use Rattle.clv_base.specs.LogRules.{log_of}
use Rattle.clv_base.specs.Journals.{reply_state, flush_state, event_state}
use Rattle.clv_base.specs.History.{state_before}
use Rattle.clv_base.specs.Events.{Reply, QuietBeforeWorn, QuietAfterWorn, Does, happen, with_durable, with_entry, put_down}
use Rattle.clv_base.proofs.SameNames.{tx_true}
use Rattle.history_cases.proofs.Merging.{Among, is_among, among_left}
use Rattle.fate_laws.proofs.Origins.AllComesOfEntries.{prepares_come_of_requests}
use Rattle.clv_base.specs.declared.messages.Message.TheVariants.{Prepare, Vote as VoteMessage, Decide, Done, Ask}
use Rattle.clv_base.specs.History.{IsAmong}
use Rattle.clv_base.specs.Orders.{tx_same, tx_get}
use Rattle.clv_base.specs.State.{is_present}
use Rattle.clv_base.specs.Undo.{stage_of}
use Rattle.std.specs.Map.{keys_of}
use Rattle.law_base.proofs.Sets.{Rise}
use Rattle.ended_laws.specs.Parts.{forgets_part, partless, owes_none, IsPast, MayMeet}
use Rattle.ended_laws.specs.Sessions.{names}
use Rattle.ended_laws.specs.Histories.{IsPrepareOf, NoPrepareComesHome, PartsAreNotMissed}
use Rattle.ended_laws.proofs.Past.{finished_past, past_stays_past}
use Rattle.ended_laws.proofs.Partless.{finished_same}
use Rattle.ended_laws.proofs.Meeting.{only_its_own_events_miss_it}
use Rattle.ended_laws.proofs.Following.{one_request, nothing_follows_success, nothing_follows_a_later_one}

-- ---- where no Prepare comes

pub no_prepare_comes_home : NoPrepareComesHome
no_prepare_comes_home splits before pre n e post after tx home seen stamp l (inr none) q =
    none (home, (prepares_come_of_requests splits before (pre ++ (n, e) ∷ post) after pre post n e n home seen stamp tx l refl q).0)
no_prepare_comes_home splits before pre n e post after tx home seen stamp l (inl a) q =
    let p = prepares_come_of_requests splits before (pre ++ (n, e) ∷ post) after pre post n e n home seen stamp tx l refl q in
    let b = p.0 in
    p.1 (one_request splits before after (pre ++ (n, e) ∷ post) n home a.0 b.0 tx l.legal (in_front n a.0 a.1) (in_front home b.0 b.1) a.2 b.2)
  where
    in_front : (m : ℕ) (r : Entry) → IsAmong m r pre → Among (m, r) (pre ++ (n, e) ∷ post)
    in_front m r i = among_left (m, r) pre ((n, e) ∷ post) (is_among m r pre i)

-- ---- what may come

may_meet : (tx : TxId) (e : Event) → names tx e ≡ false → (IsPrepareOf tx e → ⊥) → MayMeet tx e
may_meet tx (Op t birth nth seen op) w n = w
may_meet tx (RollTo t nth seen upto) w n = w
may_meet tx (RequestEvent t ts) w n = w
may_meet tx (Look t) w n = tt
may_meet tx (Drop t) w n = w
may_meet tx Send w n = tt
may_meet tx (Deliver (Prepare to t home seen) stamp) w n = false_from_ne_true (tx_same tx t) (λ i. n (tx_true tx t i))
may_meet tx (Deliver (VoteMessage to t from vote) stamp) w n = tt
may_meet tx (Deliver (Decide to t home commit) stamp) w n = tt
may_meet tx (Deliver (Done to t from) stamp) w n = tt
may_meet tx (Deliver (Ask to t from) stamp) w n = tt
may_meet tx Remind w n = tt
may_meet tx FlushOut w n = tt
may_meet tx FlushIn w n = tt
may_meet tx Stop w n = tt
may_meet tx Restart w n = tt

-- ---- what an entry leads to

same_state : (s : Shard) (tx : TxId) (r : Reply) → reply_state (forgets_part tx s) (partless tx r) ≡ forgets_part tx (reply_state s r)
same_state s tx (QuietBeforeWorn o) = refl
same_state s tx (QuietAfterWorn o) = refl
same_state s tx (Does o t) = refl

happens_same : (s : Shard) (tx : TxId) (e : Event) → IsPast s tx → MayMeet tx e → reply_state (forgets_part tx s) (happen (forgets_part tx s) e) ≡ forgets_part tx (reply_state s (happen s e))
happens_same s tx e p m = ap (reply_state (forgets_part tx s)) (only_its_own_events_miss_it s tx e p m) ∙ same_state s tx (happen s e)

happens_past : (s : Shard) (tx : TxId) (e : Event) (r : Reply) → happen s e ≡ r → IsPast s tx → MayMeet tx e → IsPast (reply_state s r) tx
happens_past s tx e (QuietBeforeWorn x) h p m = p
happens_past s tx e (QuietAfterWorn x) h p m = p
happens_past s tx e (Does x t) h p m = past_stays_past s t tx e x p m h

alike : (s t : Shard) (tx : TxId) → IsPast s tx → t.local ≡ s.local → t.voters ≡ s.voters → t.requests ≡ s.requests → IsPast t tx
alike s t tx p e f g = record {
  parts_rise = subst (λ z. Rise (keys_of z.parts)) (sym e) p.parts_rise;
  voters_rise = subst (λ z. Rise (keys_of z)) (sym f) p.voters_rise;
  requests_rise = subst (λ z. Rise (keys_of z)) (sym g) p.requests_rise;
  is_gone = subst (λ z. is_present (stage_of z tx) ≡ false) (sym e) p.is_gone;
  owes = subst (λ z. owes_none (tx_get tx z) ≡ true) (sym f) p.owes;
  no_request = subst (λ z. tx_get tx z ≡ None) (sym g) p.no_request;
}

flush_same : (s : Shard) (tx : TxId) (o : Outcome) → IsPast s tx → (flush_state (forgets_part tx s) o ≡ forgets_part tx (flush_state s o)) × IsPast (flush_state s o) tx
flush_same s tx (Durable n) p = let q = alike s (with_durable n s) tx p refl refl refl in (finished_same (with_durable n s) tx q, finished_past (with_durable n s) tx q)
flush_same s tx _ p = (refl, alike s (put_down s) tx p refl refl refl)

abbrev Goes : List LogRecord → Shard → TxId → Event → Outcome → Type 0
Goes log s tx e o = (event_state log (forgets_part tx s) e o ≡ forgets_part tx (event_state log s e o)) × IsPast (event_state log s e o) tx

event_same : (log : List LogRecord) (s : Shard) (tx : TxId) (e : Event) (x : Outcome) → IsPast s tx → MayMeet tx e → (e ≡ Restart → ⊥) → Goes log s tx e x
event_same log s tx FlushIn x p m n = flush_same s tx x p
event_same log s tx Restart x p m n = absurd (n refl)
event_same log s tx (Op t birth nth seen op) x p m n = (happens_same s tx (Op t birth nth seen op) p m, happens_past s tx (Op t birth nth seen op) _ refl p m)
event_same log s tx (RollTo t nth seen upto) x p m n = (happens_same s tx (RollTo t nth seen upto) p m, happens_past s tx (RollTo t nth seen upto) _ refl p m)
event_same log s tx (RequestEvent t ts) x p m n = (happens_same s tx (RequestEvent t ts) p m, happens_past s tx (RequestEvent t ts) _ refl p m)
event_same log s tx (Look t) x p m n = (happens_same s tx (Look t) p m, happens_past s tx (Look t) _ refl p m)
event_same log s tx (Drop t) x p m n = (happens_same s tx (Drop t) p m, happens_past s tx (Drop t) _ refl p m)
event_same log s tx Send x p m n = (happens_same s tx Send p m, happens_past s tx Send _ refl p m)
event_same log s tx (Deliver z stamp) x p m n = (happens_same s tx (Deliver z stamp) p m, happens_past s tx (Deliver z stamp) _ refl p m)
event_same log s tx Remind x p m n = (happens_same s tx Remind p m, happens_past s tx Remind _ refl p m)
event_same log s tx FlushOut x p m n = (happens_same s tx FlushOut p m, happens_past s tx FlushOut _ refl p m)
event_same log s tx Stop x p m n = (happens_same s tx Stop p m, happens_past s tx Stop _ refl p m)

pub parts_are_not_missed : PartsAreNotMissed
parts_are_not_missed splits before pre n e post after tx l p f r k =
    let s = state_before before pre after n in
    let w : names tx e.event ≡ false =
    ⊎_elim (λ a. nothing_follows_success splits before pre n e post after tx l.legal a) (λ b. nothing_follows_a_later_one splits before pre n e post after tx l.legal b) f in
    let g = event_same (log_of after n) s tx e.event e.outcome p (may_meet tx e.event w k) r in
    (ap (with_entry e.stamp e.walker e.event e.outcome) g.0, alike (event_state (log_of after n) s e.event e.outcome) _ tx g.1 refl refl refl)
