-- What an event comes to: whether it is quiet, and what it may be.
use Rattle.std.proofs.Common.{◌≡◌, ◌∙◌, refl, sym, ap, subst, ℕ, zero, suc, ◌==◌, ◌^◌, nat_lt, Bool, true, false, not, cond, List, [], ◌∷◌, drop, Option, Some, None, Result, Ok, Err}
use Rattle.std.specs.Prelude.{is_some, IfOk}
use Rattle.std.proofs.lemmas.Bool.{both_ways}
use Rattle.clv_base.specs.declared.names.TxId.{TxId}
use Rattle.clv_base.specs.declared.names.Birth.{Birth}
use Rattle.clv_base.specs.declared.ops.Op.{Op}
use Rattle.clv_base.specs.declared.ops.Op.TheVariants.{Get, Put, Del, Scan, Add}
use Rattle.clv_base.specs.declared.causes.Vote.{Vote}
use Rattle.clv_base.specs.declared.causes.AbortCause.TheVariants.{Restarted}
use Rattle.clv_base.specs.declared.messages.Message.{Message}
use Rattle.clv_base.specs.declared.messages.Message.TheVariants.{Prepare, Vote as VoteMessage, Decide, Done, Ask}
use Rattle.clv_base.specs.declared.events.Event.{Event}
use Rattle.clv_base.specs.declared.events.Event.TheVariants.{Op as OpEvent, RollTo, Request as RequestEvent, Look, Drop, Send, Deliver, Remind, FlushOut, FlushIn, Stop, Restart}
use Rattle.clv_base.specs.declared.events.Outcome.{Outcome}
use Rattle.clv_base.specs.declared.events.Outcome.TheVariants.{Acknowledged, Aborted, Failed, NotYet, Stale, Down}
use Rattle.clv_base.specs.declared.events.Entry.{Entry}
use Rattle.clv_base.specs.declared.modes.Decision.{Decision}
use Rattle.clv_base.specs.declared.modes.Decision.TheVariants.{Grant, Wait, Die}
use Rattle.clv_base.specs.Orders.{tx_get}
use Rattle.clv_base.specs.Logs.{committed_in, fitting}
use Rattle.clv_base.specs.Locks.{decide}
use Rattle.clv_base.specs.declared.state.Stage.{Stage}
use Rattle.clv_base.specs.declared.state.Stage.TheVariants.{Active, Closed, Gone}
use Rattle.clv_base.specs.declared.state.Request.{Request}
use Rattle.clv_base.specs.declared.state.RequestState.{RequestState}
use Rattle.clv_base.specs.declared.state.RequestState.TheVariants.{Undecided, Committed, Finished, Refused}
use Rattle.clv_base.specs.declared.state.Taken.{Taken as DecisionTaken}
use Rattle.clv_base.specs.declared.state.Taken.TheVariants.{Done as IsDone, Waiting as IsAwaited, Stale as IsStale}
use Rattle.clv_base.specs.State.{Local, Shard}
use Rattle.clv_base.specs.Undo.{stage_of}
use Rattle.clv_base.specs.Backs.{standing_numbers, count_after}
use Rattle.clv_base.specs.Needs.{Records, needs_of, answer_of}
use Rattle.clv_base.specs.Facts.{facts_of, has_durable_commit}
use Rattle.clv_base.specs.Participant.{taken_by}
use Rattle.clv_base.specs.Coordinator.{takes_vote, takes_done}
use Rattle.clv_base.specs.OneShard.{OpReply, OpWaits, OpCrowded, OpDies, OpAnswers, seen_fits, op_reply, op_seen, op_by_stage, op_decided, op_granted}
use Rattle.clv_base.specs.Events.{Reply, QuietBeforeWorn, QuietAfterWorn, Does, finish, op_event, roll_by_stage, roll_event, epoch_in, request_by_stage, request_event, look_lost, look_state, look_known, look_event, request_epoch, drop_event, on_prepare, on_vote, on_decide, on_done, on_message, to_of, send_event, reminders, remind_with, out_event, taken, happen_up, happen, Quiet, Enters, next_stamp, stamped, step, land_up, land, put_down}
use Rattle.machine_calls.specs.declared.machine.StepError.{StepError}
use Rattle.machine_calls.specs.Steps.{Tells}
use Rattle.machine_laws.specs.Homes.{is_turned}
use Rattle.cluster_turns.specs.Answers.{is_quiet, is_kept, may_answer, may_come_to}
use Rattle.law_base.proofs.Shards.{is_done, outcome_in}

-- ---- replies

abbrev is_down : Outcome → Bool
is_down Down = true
is_down _ = false

-- it is quiet where nothing is done, is one that the event may come to, and tells whether the shard is down
pub record Fits (up : Bool) (e : Event) (r : Reply) : Type 0 where
  pub quiet : is_quiet (outcome_in r) ≡ not (is_done r)
  pub comes : may_come_to e (outcome_in r) ≡ true
  pub down : is_down (outcome_in r) ≡ not up

fits_both : (e : Event) (b : Bool) (x y : Reply) → Fits true e x → Fits true e y → Fits true e (cond b x y)
fits_both e true x y f g = f
fits_both e false x y f g = g

-- ---- an operation

answers_fit : (op : Op) (rs : Records) → may_answer op (answer_of op rs) ≡ true
answers_fit (Get k) rs = refl
answers_fit (Put k v) rs = refl
answers_fit (Del k) rs = refl
answers_fit (Add k by) rs = refl
answers_fit (Scan lo hi) rs = refl

abbrev AnswerFits : Op → OpReply → Type 0
AnswerFits op (OpAnswers answer l) = may_answer op answer ≡ true
AnswerFits op (OpWaits younger) = Unit {0}
AnswerFits op (OpCrowded count) = Unit {0}
AnswerFits op (OpDies cause l) = Unit {0}

module _ (tx : TxId) (birth : Birth) (op : Op) where
  granted_fits : (l : Local) (crowded : Bool) → AnswerFits op (op_granted l tx birth op crowded)
  granted_fits l true = tt
  granted_fits l false = answers_fit op l.records

  decided_fits : (l : Local) (d : Decision) → AnswerFits op (op_decided l tx birth op d)
  decided_fits l (Die older) = tt
  decided_fits l (Wait younger) = tt
  decided_fits l Grant = granted_fits l _

  staged_fits : (l : Local) (st : Option Stage) → AnswerFits op (op_by_stage l tx birth op st)
  staged_fits l None = decided_fits l (decide tx birth (needs_of op l.records) l.locks)
  staged_fits l (Some Active) = decided_fits l (decide tx birth (needs_of op l.records) l.locks)
  staged_fits l (Some Closed) = tt
  staged_fits l (Some (Gone None)) = tt
  staged_fits l (Some (Gone (Some doom))) = tt

  seen_answers_fit : (shard : ℕ) (l : Local) (seen : Option ℕ) (fits : Bool) → AnswerFits op (op_seen shard l tx birth seen op fits)
  seen_answers_fit shard l seen false = tt
  seen_answers_fit shard l seen true = staged_fits l (stage_of l tx)

op_fits : (s : Shard) (tx : TxId) (birth : Birth) (nth : ℕ) (seen : Option ℕ) (op : Op) (r : OpReply) → AnswerFits op r → Fits true (OpEvent tx birth nth seen op) (op_event s r)
op_fits s tx birth nth seen op (OpWaits younger) a = record { quiet = refl; comes = refl; down = refl }
op_fits s tx birth nth seen op (OpCrowded count) a = record { quiet = refl; comes = refl; down = refl }
op_fits s tx birth nth seen op (OpDies cause l) a = record { quiet = refl; comes = refl; down = refl }
op_fits s tx birth nth seen op (OpAnswers answer l) a = record { quiet = refl; comes = a; down = refl }

-- ---- a going back, a request, a look, a drop

rolled_fits : (s : Shard) (tx : TxId) (nth seen upto n : ℕ) (st : Option Stage) → Fits true (RollTo tx nth seen upto) (roll_by_stage s tx n st)
rolled_fits s tx nth seen upto n None = record { quiet = refl; comes = refl; down = refl }
rolled_fits s tx nth seen upto n (Some Active) = record { quiet = refl; comes = refl; down = refl }
rolled_fits s tx nth seen upto n (Some Closed) = record { quiet = refl; comes = refl; down = refl }
rolled_fits s tx nth seen upto n (Some (Gone None)) = record { quiet = refl; comes = refl; down = refl }
rolled_fits s tx nth seen upto n (Some (Gone (Some doom))) = record { quiet = refl; comes = refl; down = refl }

roll_fits : (s : Shard) (tx : TxId) (nth seen upto : ℕ) (fits : Bool) → Fits true (RollTo tx nth seen upto) (roll_event s tx seen upto fits)
roll_fits s tx nth seen upto false = record { quiet = refl; comes = refl; down = refl }
roll_fits s tx nth seen upto true = rolled_fits s tx nth seen upto (count_after upto (standing_numbers tx s.journal)) (stage_of s.local tx)

request_fits : (s : Shard) (tx : TxId) (ts : List (ℕ × ℕ)) (st : Option Stage) → Fits true (RequestEvent tx ts) (request_by_stage s tx ts st)
request_fits s tx ts None = record { quiet = refl; comes = refl; down = refl }
request_fits s tx ts (Some Active) = record { quiet = refl; comes = refl; down = refl }
request_fits s tx ts (Some Closed) = record { quiet = refl; comes = refl; down = refl }
request_fits s tx ts (Some (Gone None)) = record { quiet = refl; comes = refl; down = refl }
request_fits s tx ts (Some (Gone (Some doom))) = record { quiet = refl; comes = refl; down = refl }

asked_fits : (s : Shard) (tx : TxId) (ts : List (ℕ × ℕ)) (fits : Bool) → Fits true (RequestEvent tx ts) (request_event s tx ts fits)
asked_fits s tx ts false = record { quiet = refl; comes = refl; down = refl }
asked_fits s tx ts true = request_fits s tx ts (stage_of s.local tx)

state_fits : (s : Shard) (tx : TxId) (q : RequestState) → Fits true (Look tx) (look_state s q)
state_fits s tx Undecided = record { quiet = refl; comes = refl; down = refl }
state_fits s tx (Committed parts) = record { quiet = refl; comes = refl; down = refl }
state_fits s tx Finished = record { quiet = refl; comes = refl; down = refl }
state_fits s tx (Refused cause) = record { quiet = refl; comes = refl; down = refl }

lost_fits : (s : Shard) (tx : TxId) (e : Option ℕ) → Fits true (Look tx) (look_lost s tx e)
lost_fits s tx None = record { quiet = refl; comes = refl; down = refl }
lost_fits s tx (Some e) =
    fits_both (Look tx) (e == s.local.epoch) (QuietBeforeWorn NotYet) (Does (Aborted (Restarted s.shard e s.local.epoch)) (finish s)) (record { quiet = refl; comes = refl; down = refl })
    (record { quiet = refl; comes = refl; down = refl })

known_fits : (s : Shard) (tx : TxId) (q : Option Request) → Fits true (Look tx) (look_known s tx q)
known_fits s tx (Some q) = state_fits s tx q.state
known_fits s tx None =
    fits_both (Look tx) (committed_in s.local.log tx) (QuietBeforeWorn NotYet) (look_lost s tx (request_epoch s.shard tx s.journal)) (record { quiet = refl; comes = refl; down = refl })
    (lost_fits s tx (request_epoch s.shard tx s.journal))

look_fits : (s : Shard) (tx : TxId) → Fits true (Look tx) (look_event s tx)
look_fits s tx =
    fits_both (Look tx) (has_durable_commit (facts_of s tx)) (Does Acknowledged (finish s)) (look_known s tx (tx_get tx s.requests)) (record { quiet = refl; comes = refl; down = refl }) (known_fits s tx (tx_get tx s.requests))

drop_fits : (s : Shard) (tx : TxId) (st : Option Stage) → Fits true (Drop tx) (drop_event s tx st)
drop_fits s tx None = record { quiet = refl; comes = refl; down = refl }
drop_fits s tx (Some stage) = record { quiet = refl; comes = refl; down = refl }

-- ---- a message that comes

module _ (message : Message) (stamp : ℕ) where
  abbrev arrives : Event
  arrives = Deliver message stamp

  stale_fits : Fits true arrives (QuietBeforeWorn Stale)
  stale_fits = record { quiet = refl; comes = refl; down = refl }

  prepare_fits : (s : Shard) (tx : TxId) (home seen : ℕ) (st : Option Stage) → Fits true arrives (on_prepare s tx home seen st)
  prepare_fits s tx home seen (Some Active) = record { quiet = refl; comes = refl; down = refl }
  prepare_fits s tx home seen (Some Closed) = record { quiet = refl; comes = refl; down = refl }
  prepare_fits s tx home seen (Some (Gone d)) = record { quiet = refl; comes = refl; down = refl }
  prepare_fits s tx home seen None = fits_both arrives (seen == s.local.epoch) _ _ stale_fits (record { quiet = refl; comes = refl; down = refl })

  vote_fits : (s : Shard) (tx : TxId) (from : ℕ) (vote : Vote) (q : Option Request) → Fits true arrives (on_vote s tx from vote q)
  vote_fits s tx from vote None = stale_fits
  vote_fits s tx from vote (Some q) = fits_both arrives (takes_vote s.shard from q) _ _ (record { quiet = refl; comes = refl; down = refl }) stale_fits

  decide_fits : (s : Shard) (tx : TxId) (home : ℕ) (commit : Bool) (t : DecisionTaken) → Fits true arrives (on_decide s tx home commit t)
  decide_fits s tx home commit IsAwaited = record { quiet = refl; comes = refl; down = refl }
  decide_fits s tx home commit IsDone = record { quiet = refl; comes = refl; down = refl }
  decide_fits s tx home commit IsStale = stale_fits

  done_fits : (s : Shard) (tx : TxId) (from : ℕ) (q : Option Request) → Fits true arrives (on_done s tx from q)
  done_fits s tx from None = stale_fits
  done_fits s tx from (Some q) = fits_both arrives (takes_done from q) _ _ (record { quiet = refl; comes = refl; down = refl }) stale_fits

  message_fits : (s : Shard) (m : Message) → Fits true arrives (on_message s m)
  message_fits s (Prepare to tx home seen) = prepare_fits s tx home seen (stage_of s.local tx)
  message_fits s (VoteMessage to tx from vote) = vote_fits s tx from vote (tx_get tx s.requests)
  message_fits s (Decide to tx home commit) = decide_fits s tx home commit (taken_by (facts_of s tx) commit)
  message_fits s (Done to tx from) = done_fits s tx from (tx_get tx s.requests)
  message_fits s (Ask to tx from) = record { quiet = refl; comes = refl; down = refl }

-- ---- sending, reminding, the start of a flush

send_fits : (s : Shard) (ms : List Message) → Fits true Send (send_event s ms)
send_fits s [] = record { quiet = refl; comes = refl; down = refl }
send_fits s (m ∷ ms) = record { quiet = refl; comes = refl; down = refl }

remind_fits : (s : Shard) (os ms : List Message) → Fits true Remind (remind_with s os ms)
remind_fits s [] (m ∷ ms) = record { quiet = refl; comes = refl; down = refl }
remind_fits s [] [] = record { quiet = refl; comes = refl; down = refl }
remind_fits s (o ∷ os) ms = record { quiet = refl; comes = refl; down = refl }

out_fits : (s : Shard) (flight : Option ℕ) (n : ℕ) → Fits true FlushOut (out_event s flight n)
out_fits s flight zero = record { quiet = refl; comes = refl; down = refl }
out_fits s (Some n) (suc k) = record { quiet = refl; comes = refl; down = refl }
out_fits s None (suc k) = record { quiet = refl; comes = refl; down = refl }

-- ---- any event of a turn

up_fits : (s : Shard) (e : Event) → is_turned e ≡ true → Fits true e (happen_up s e)
up_fits s (OpEvent tx birth nth seen op) k =
    op_fits s tx birth nth seen op (op_reply s.shard s.local tx birth seen op) (seen_answers_fit tx birth op s.shard s.local seen (seen_fits s.local.epoch seen))
up_fits s (RollTo tx nth seen upto) k = roll_fits s tx nth seen upto (seen == s.local.epoch)
up_fits s (RequestEvent tx ts) k = asked_fits s tx ts (seen_fits s.local.epoch (epoch_in s.shard ts))
up_fits s (Look tx) k = look_fits s tx
up_fits s (Drop tx) k = drop_fits s tx (stage_of s.local tx)
up_fits s Send k = send_fits s s.outbox
up_fits s (Deliver m stamp) k = fits_both (Deliver m stamp) (to_of m == s.shard) (on_message s m) (QuietBeforeWorn Stale) (message_fits m stamp s m) (stale_fits m stamp)
up_fits s Remind k = remind_fits s s.outbox (reminders s)
up_fits s FlushOut k = out_fits s s.flight (fitting 1048576 (drop (taken s) s.local.log))
up_fits s FlushIn k = absurd (both_ways false refl k)
up_fits s Stop k = absurd (both_ways false refl k)
up_fits s Restart k = absurd (both_ways false refl k)

down_fits : (e : Event) → is_turned e ≡ true → Fits false e (QuietBeforeWorn Down)
down_fits (OpEvent tx birth nth seen op) k = record { quiet = refl; comes = refl; down = refl }
down_fits (RollTo tx nth seen upto) k = record { quiet = refl; comes = refl; down = refl }
down_fits (RequestEvent tx ts) k = record { quiet = refl; comes = refl; down = refl }
down_fits (Look tx) k = record { quiet = refl; comes = refl; down = refl }
down_fits (Drop tx) k = record { quiet = refl; comes = refl; down = refl }
down_fits Send k = record { quiet = refl; comes = refl; down = refl }
down_fits (Deliver m stamp) k = record { quiet = refl; comes = refl; down = refl }
down_fits Remind k = record { quiet = refl; comes = refl; down = refl }
down_fits FlushOut k = record { quiet = refl; comes = refl; down = refl }
down_fits FlushIn k = absurd (both_ways false refl k)
down_fits Stop k = absurd (both_ways false refl k)
down_fits Restart k = absurd (both_ways false refl k)

happen_fits : (s : Shard) (e : Event) → is_turned e ≡ true → Fits s.is_up e (happen s e)
happen_fits s e k = at s.is_up
  where
    at : (u : Bool) → Fits u e (elim u [ true ↦ happen_up s e | false ↦ QuietBeforeWorn Down ])
    at true = up_fits s e k
    at false = down_fits e k

-- ---- an answer, with the entry that it made

pub quiet_so : (stamp w : ℕ) (e : Event) (room : Bool) (r : Reply) (o : Outcome) → stamped stamp w e room r ≡ Quiet o → (outcome_in r ≡ o) × (is_done r ≡ false)
quiet_so stamp w e room (QuietBeforeWorn p) o h = (cc, refl)
quiet_so stamp w e true (QuietAfterWorn p) o h = (cc, refl)
quiet_so stamp w e false (QuietAfterWorn p) o h = absurd cc
quiet_so stamp w e true (Does p t) o h = absurd cc
quiet_so stamp w e false (Does p t) o h = absurd cc

pub enters_so : (stamp w : ℕ) (e : Event) (room : Bool) (r : Reply) (o : Outcome) (t : Shard) → stamped stamp w e room r ≡ Enters o t → (outcome_in r ≡ o) × (is_done r ≡ true)
enters_so stamp w e room (QuietBeforeWorn p) o t h = absurd cc
enters_so stamp w e true (QuietAfterWorn p) o t h = absurd cc
enters_so stamp w e false (QuietAfterWorn p) o t h = absurd cc
enters_so stamp w e true (Does p u) o t h = (cc, refl)
enters_so stamp w e false (Does p u) o t h = absurd cc

pub ok_same : (o p : Outcome) → ◌≡◌ {A = Result Outcome StepError} (Ok o) (Ok p) → o ≡ p
ok_same o p h = cc

no_answer : (e : StepError) (o : Outcome) {X : Type 0} → ◌≡◌ {A = Result Outcome StepError} (Err e) (Ok o) → X
no_answer e o h = absurd cc

-- of a turn's answer r: whether it comes with an entry, what it may be, and that at Down the shard is down after it, t
pub record Told (e : Event) (r : Result Outcome StepError) (t : Shard) (made : Option Entry) : Type 0 where
  pub entered : is_some made ≡ is_kept r
  pub comes : IfOk r (λ o. may_come_to e o ≡ true)
  pub down : r ≡ Ok Down → t.is_up ≡ false

up_by : (b : Bool) → true ≡ not b → b ≡ false
up_by true h = absurd (both_ways true h refl)
up_by false h = refl

pub told_by : (s t : Shard) (clock w : ℕ) (e : Event) (r : Result Outcome StepError) (made : Option Entry) → is_turned e ≡ true → Tells (step s clock w e) s clock w e r t made → Told e r t made
told_by s t clock w e (Err x) None k h = record { entered = refl; comes = tt; down = λ is. no_answer x Down is }
told_by s t clock w e (Ok o) None k h =
    let q = quiet_so (next_stamp s clock e) w e (nat_lt (next_stamp s clock e) (2 ^ 48)) (happen s e) o h.0 in
    let f = happen_fits s e k in
    record {
      entered = sym (ap not (ap is_quiet (sym q.0) ∙ f.quiet ∙ ap not q.1));
      comes = ap (may_come_to e) (sym q.0) ∙ f.comes;
      down = λ is. ap (λ x. x.is_up) h.1 ∙ up_by s.is_up (ap is_down (sym (ok_same o Down is)) ∙ ap is_down (sym q.0) ∙ f.down);
    }
told_by s t clock w e r (Some x) k (o, is, m) =
    let q = enters_so (next_stamp s clock e) w e (nat_lt (next_stamp s clock e) (2 ^ 48)) (happen s e) o t m.enters in
    let f = happen_fits s e k in
    let loud : is_quiet o ≡ false = ap is_quiet (sym q.0) ∙ f.quiet ∙ ap not q.1 in
    subst (λ y. Told e y t (Some x)) (sym is) (record {
      entered = sym (ap not loud);
      comes = ap (may_come_to e) (sym q.0) ∙ f.comes;
      down = λ same. absurd (both_ways (is_quiet o) loud (ap is_quiet (ok_same o Down same)));
    })

-- ---- the end of a flush that failed

entered_down : (s t : Shard) (clock w : ℕ) (f : Option ℕ) → land_up s clock w false f ≡ Enters Failed t → t.is_up ≡ false
entered_down s t clock w None h = absurd cc
entered_down s t clock w (Some n) h = let k : Rattle.clv_base.specs.Events.with_entry (next_stamp s clock FlushIn) w FlushIn Failed (put_down s) ≡ t = cc in ap (λ x. x.is_up) (sym k)

pub failed_down : (s t : Shard) (clock w : ℕ) → land s clock w false ≡ Enters Failed t → t.is_up ≡ false
failed_down s t clock w h = at s.is_up h
  where
    at : (u : Bool) → elim u [ true ↦ land_up s clock w false s.flight | false ↦ Quiet Down ] ≡ Enters Failed t → t.is_up ≡ false
    at true h = entered_down s t clock w s.flight h
    at false h = absurd cc
