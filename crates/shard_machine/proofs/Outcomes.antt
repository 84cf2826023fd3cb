-- What a call answers may be delivered, where it is a message that leaves; of no other event is a message that leaves the outcome.
use Rattle.std.proofs.Common.{◌≡◌, refl, sym, subst, ℕ, zero, suc, ◌^◌, Bool, true, false, cond, nat_lt, ◌==◌, List, [], ◌∷◌, Option, Some, None, Result, Ok, Err}
use Rattle.std.proofs.lemmas.Bool.{and_parts}
use Rattle.std.specs.List.{list_all}
use Rattle.std.specs.Prelude.{IfOk}
use Rattle.clv_base.specs.declared.names.TxId.{TxId}
use Rattle.clv_base.specs.declared.messages.Message.{Message}
use Rattle.clv_base.specs.declared.messages.Message.TheVariants.{Prepare, Vote as VoteMessage, Decide, Done, Ask}
use Rattle.clv_base.specs.declared.events.Event.{Event}
use Rattle.clv_base.specs.declared.events.Event.TheVariants.{Op, RollTo, Request as RequestEvent, Look, Drop, Send, Deliver, Remind, FlushOut, FlushIn, Stop, Restart}
use Rattle.clv_base.specs.declared.events.Outcome.{Outcome}
use Rattle.clv_base.specs.declared.events.Outcome.TheVariants.{Stale}
use Rattle.clv_base.specs.declared.events.Entry.{Entry}
use Rattle.clv_base.specs.declared.state.Stage.{Stage}
use Rattle.clv_base.specs.declared.state.Stage.TheVariants.{Active, Closed, Gone}
use Rattle.clv_base.specs.declared.state.Request.{Request}
use Rattle.clv_base.specs.declared.state.RequestState.{RequestState}
use Rattle.clv_base.specs.declared.state.RequestState.TheVariants.{Undecided, Committed, Finished, Refused}
use Rattle.clv_base.specs.declared.state.Taken.{Taken as DecisionTaken}
use Rattle.clv_base.specs.declared.state.Taken.TheVariants.{Done as IsDone, Waiting as IsAwaited, Stale as IsStale}
use Rattle.clv_base.specs.Orders.{tx_get}
use Rattle.clv_base.specs.Logs.{committed_in}
use Rattle.clv_base.specs.State.{Shard}
use Rattle.clv_base.specs.Undo.{stage_of}
use Rattle.clv_base.specs.Facts.{facts_of, has_durable_commit}
use Rattle.clv_base.specs.Participant.{taken_by}
use Rattle.clv_base.specs.Coordinator.{takes_vote, takes_done}
use Rattle.clv_base.specs.OneShard.{OpReply, OpWaits, OpCrowded, OpDies, OpAnswers, seen_fits, op_reply}
use Rattle.clv_base.specs.Backs.{standing_numbers, count_after}
use Rattle.clv_base.specs.Events.{Reply, QuietBeforeWorn, QuietAfterWorn, Does, op_event, roll_by_stage, roll_event, request_by_stage, request_event, epoch_in, request_epoch, look_lost, look_state, look_known, look_event, drop_event, on_prepare, on_vote, on_decide, on_done, on_message, to_of, finish, remind_with, reminders, out_event, happen_up, happen, next_stamp, CallAnswer, Quiet, Worn, Enters, stamped, step}
use Rattle.clv_base.specs.declared.events.Outcome.TheVariants.{NotYet, Acknowledged, Down}
use Rattle.machine_calls.specs.declared.machine.StepError.{StepError}
use Rattle.machine_calls.specs.declared.machine.StepError.TheVariants.{Memory, Worn as WornError}
use Rattle.due_step.specs.Sent.{first_of}
use Rattle.machine_calls.specs.Events.{message_fits, sends_fit}
use Rattle.machine_calls.specs.Steps.{Tells}

-- what an event comes to may be delivered, where it is a message
abbrev pub ReplyFits : Reply → Type 0
ReplyFits (QuietBeforeWorn o) = sends_fit o ≡ true
ReplyFits (QuietAfterWorn o) = sends_fit o ≡ true
ReplyFits (Does o t) = sends_fit o ≡ true

abbrev AnswerFits : CallAnswer → Type 0
AnswerFits (Quiet o) = sends_fit o ≡ true
AnswerFits Worn = Unit {0}
AnswerFits (Enters o t) = sends_fit o ≡ true

abbrev pub is_other : Event → Bool
is_other Send = false
is_other _ = true

if_fits : (b : Bool) (r q : Reply) → ReplyFits r → ReplyFits q → ReplyFits (cond b r q)
if_fits true r q a z = a
if_fits false r q a z = z

ops_fit : (s : Shard) (r : OpReply) → ReplyFits (op_event s r)
ops_fit s (OpWaits younger) = refl
ops_fit s (OpCrowded count) = refl
ops_fit s (OpDies cause l) = refl
ops_fit s (OpAnswers answer l) = refl

requests_fit : (s : Shard) (tx : TxId) (touched : List (ℕ × ℕ)) (b : Bool) → ReplyFits (request_event s tx touched b)
requests_fit s tx touched false = refl
requests_fit s tx touched true = at (stage_of s.local tx)
  where
    at : (st : Option Stage) → ReplyFits (request_by_stage s tx touched st)
    at None = refl
    at (Some Active) = refl
    at (Some Closed) = refl
    at (Some (Gone None)) = refl
    at (Some (Gone (Some doom))) = refl

rolls_fit : (s : Shard) (tx : TxId) (seen upto : ℕ) (b : Bool) → ReplyFits (roll_event s tx seen upto b)
rolls_fit s tx seen upto false = refl
rolls_fit s tx seen upto true = at (stage_of s.local tx)
  where
    at : (st : Option Stage) → ReplyFits (roll_by_stage s tx (count_after upto (standing_numbers tx s.journal)) st)
    at None = refl
    at (Some Active) = refl
    at (Some Closed) = refl
    at (Some (Gone None)) = refl
    at (Some (Gone (Some doom))) = refl

looks_fit : (s : Shard) (tx : TxId) → ReplyFits (look_event s tx)
looks_fit s tx = if_fits (has_durable_commit (facts_of s tx)) (Does Acknowledged (finish s)) (look_known s tx (tx_get tx s.requests)) refl (known (tx_get tx s.requests))
  where
    state : (st : RequestState) → ReplyFits (look_state s st)
    state Undecided = refl
    state (Committed parts) = refl
    state Finished = refl
    state (Refused cause) = refl

    lost : (e : Option ℕ) → ReplyFits (look_lost s tx e)
    lost None = refl
    lost (Some e) = if_fits (e == s.local.epoch) _ _ refl refl

    known : (q : Option Request) → ReplyFits (look_known s tx q)
    known (Some q) = state q.state
    known None = if_fits (committed_in s.local.log tx) (QuietBeforeWorn NotYet) (look_lost s tx (request_epoch s.shard tx s.journal)) refl (lost (request_epoch s.shard tx s.journal))

drops_fit : (s : Shard) (tx : TxId) (st : Option Stage) → ReplyFits (drop_event s tx st)
drops_fit s tx None = refl
drops_fit s tx (Some st) = refl

messages_fit : (s : Shard) (m : Message) → ReplyFits (on_message s m)
messages_fit s (Prepare to tx home seen) = at (stage_of s.local tx)
  where
    at : (st : Option Stage) → ReplyFits (on_prepare s tx home seen st)
    at None = if_fits (seen == s.local.epoch) _ _ refl refl
    at (Some Active) = refl
    at (Some Closed) = refl
    at (Some (Gone d)) = refl
messages_fit s (VoteMessage to tx from vote) = at (tx_get tx s.requests)
  where
    at : (q : Option Request) → ReplyFits (on_vote s tx from vote q)
    at None = refl
    at (Some q) = if_fits (takes_vote s.shard from q) _ _ refl refl
messages_fit s (Decide to tx home commit) = at (taken_by (facts_of s tx) commit)
  where
    at : (d : DecisionTaken) → ReplyFits (on_decide s tx home commit d)
    at IsAwaited = refl
    at IsDone = refl
    at IsStale = refl
messages_fit s (Done to tx from) = at (tx_get tx s.requests)
  where
    at : (q : Option Request) → ReplyFits (on_done s tx from q)
    at None = refl
    at (Some q) = if_fits (takes_done from q) _ _ refl refl
messages_fit s (Ask to tx from) = refl

reminders_fit : (s : Shard) (waiting missing : List Message) → ReplyFits (remind_with s waiting missing)
reminders_fit s [] [] = refl
reminders_fit s [] (m ∷ ms) = refl
reminders_fit s (o ∷ os) ms = refl

flights_fit : (s : Shard) (flight : Option ℕ) (n : ℕ) → ReplyFits (out_event s flight n)
flights_fit s flight zero = refl
flights_fit s (Some n) (suc k) = refl
flights_fit s None (suc k) = refl

-- each event but the one by which messages leave
pub others_fit : (s : Shard) (e : Event) → is_other e ≡ true → ReplyFits (happen_up s e)
others_fit s (Op tx birth nth seen op) o = ops_fit s (op_reply s.shard s.local tx birth seen op)
others_fit s (RollTo tx nth seen upto) o = rolls_fit s tx seen upto (seen == s.local.epoch)
others_fit s (RequestEvent tx touched) o = requests_fit s tx touched (seen_fits s.local.epoch (epoch_in s.shard touched))
others_fit s (Look tx) o = looks_fit s tx
others_fit s (Drop tx) o = drops_fit s tx (stage_of s.local tx)
others_fit s Send o = absurd cc
others_fit s (Deliver m stamp) o = if_fits (to_of m == s.shard) (on_message s m) (QuietBeforeWorn Stale) (messages_fit s m) refl
others_fit s Remind o = reminders_fit s s.outbox (reminders s)
others_fit s FlushOut o = flights_fit s s.flight _
others_fit s FlushIn o = refl
others_fit s Stop o = refl
others_fit s Restart o = refl

pub happens_fit : (s : Shard) (e : Event) → ReplyFits (happen_up s e) → ReplyFits (happen s e)
happens_fit s e fits = at s.is_up
  where
    at : (up : Bool) → ReplyFits (elim up [ true ↦ happen_up s e | false ↦ QuietBeforeWorn Down ])
    at true = fits
    at false = refl

stamped_fits : (n w : ℕ) (e : Event) (room : Bool) (r : Reply) → ReplyFits r → AnswerFits (stamped n w e room r)
stamped_fits n w e room (QuietBeforeWorn o) f = f
stamped_fits n w e false (QuietAfterWorn o) f = tt
stamped_fits n w e true (QuietAfterWorn o) f = f
stamped_fits n w e false (Does o t) f = tt
stamped_fits n w e true (Does o t) f = f

-- what a call tells may be delivered
pub told_fits : (s t : Shard) (clock w : ℕ) (e : Event) (r : Result Outcome StepError) (made : Option Entry) → ReplyFits (happen s e) → Tells (step s clock w e) s clock w e r t made → IfOk r (λ o. sends_fit o ≡ true)
told_fits s t clock w e r made fits told = at r made told
  where
    answer : AnswerFits (step s clock w e)
    answer = stamped_fits (next_stamp s clock e) w e (nat_lt (next_stamp s clock e) (2 ^ 48)) (happen s e) fits

    at : (r : Result Outcome StepError) (made : Option Entry) → Tells (step s clock w e) s clock w e r t made → IfOk r (λ o. sends_fit o ≡ true)
    at r (Some x) (o, is, m) = subst (λ z. IfOk z (λ p. sends_fit p ≡ true)) (sym is) (subst AnswerFits m.enters answer)
    at (Ok o) None (quiet, same) = subst AnswerFits quiet answer
    at (Err Memory) None told = tt
    at (Err (WornError n)) None told = tt

-- the oldest of some messages that may be delivered
pub first_fits : (ms : List Message) (m : Message) → list_all message_fits ms ≡ true → first_of ms ≡ Some m → message_fits m ≡ true
first_fits [] m fits is = absurd cc
first_fits (x ∷ xs) m fits is = let same : x ≡ m = cc in subst (λ (y : Message). message_fits y ≡ true) same (and_parts (message_fits x) (list_all message_fits xs) fits).0

-- what a call tells of an event but the one by which messages leave
pub other_fits : (s t : Shard) (clock w : ℕ) (e : Event) (r : Result Outcome StepError) → is_other e ≡ true → ((made : Option Entry) × Tells (step s clock w e) s clock w e r t made) → IfOk r (λ o. sends_fit o ≡ true)
other_fits s t clock w e r other (made, told) = told_fits s t clock w e r made (happens_fit s e (others_fit s e other)) told
