-- The shard's number and what is in flight, through what is due and through each event.
use Rattle.std.proofs.Common.{◌≡◌, refl, ◌∙◌, subst, ℕ, Bool, true, false, cond, ◌==◌, List, [], ◌∷◌, Option, Some, None}
use Rattle.std.proofs.lemmas.Bool.{both_ways}
use Rattle.clv_base.specs.declared.names.TxId.{TxId}
use Rattle.clv_base.specs.declared.causes.Vote.{Vote}
use Rattle.clv_base.specs.declared.causes.Vote.TheVariants.{Yes, Read, No}
use Rattle.clv_base.specs.declared.messages.Message.{Message}
use Rattle.clv_base.specs.declared.messages.Message.TheVariants.{Prepare, Vote as VoteMessage, Decide, Done, Ask}
use Rattle.clv_base.specs.declared.events.Event.{Event}
use Rattle.clv_base.specs.declared.events.Event.TheVariants.{Op as OpEvent, RollTo, Request as RequestEvent, Look, Drop, Send, Deliver, Remind, FlushOut, FlushIn, Stop, Restart}
use Rattle.clv_base.specs.declared.state.Ruling.TheVariants.{Commit as CommitVerdict, Acknowledge, Abort as AbortVerdict, End as EndVerdict}
use Rattle.clv_base.specs.declared.state.Stage.{Stage}
use Rattle.clv_base.specs.declared.state.Stage.TheVariants.{Active, Closed, Gone}
use Rattle.clv_base.specs.declared.state.Voter.{Voter}
use Rattle.clv_base.specs.declared.state.RequestState.{RequestState}
use Rattle.clv_base.specs.declared.state.RequestState.TheVariants.{Undecided, Committed, Finished, Refused}
use Rattle.clv_base.specs.declared.state.Request.{Request}
use Rattle.clv_base.specs.declared.state.Ruling.{Ruling}
use Rattle.clv_base.specs.declared.state.Taken.{Taken as DecisionTaken}
use Rattle.clv_base.specs.declared.state.Taken.TheVariants.{Done as IsDone, Waiting as IsAwaited, Stale as IsStale}
use Rattle.clv_base.specs.Orders.{tx_get}
use Rattle.clv_base.specs.Logs.{committed_in}
use Rattle.clv_base.specs.State.{Shard, with_local}
use Rattle.clv_base.specs.Undo.{stage_of, roll_to}
use Rattle.clv_base.specs.Backs.{standing_numbers, count_after}
use Rattle.clv_base.specs.Facts.{facts_of, has_durable_commit}
use Rattle.clv_base.specs.Participant.{taken_by}
use Rattle.clv_base.specs.Coordinator.{takes_vote, takes_done}
use Rattle.clv_base.specs.OneShard.{OpReply, OpWaits, OpCrowded, OpDies, OpAnswers, seen_fits, op_reply, drop_part}
use Rattle.clv_base.specs.Due.{due_of, do_due, work, finish_reader, with_vote, do_ruling, with_ruling}
use Rattle.clv_base.specs.Events.{Reply, QuietBeforeWorn, QuietAfterWorn, Does, finish, op_event, roll_by_stage, roll_event, epoch_in, request_by_stage, request_event, look_lost, look_state, look_known, request_epoch, drop_event, on_prepare, on_vote, decided, on_decide, on_done, on_message, to_of, send_event, reminders, remind_with, happen_up}
use Rattle.clv_base.specs.Coordinator.{others, ask_answer}
use Rattle.clv_base.specs.OneShard.{close_part}
use Rattle.clv_base.specs.Due.{send}
use Rattle.clv_base.specs.Events.{is_alone, coordinate, owe_vote, with_votes, with_done, with_outbox, ask_messages}
use Rattle.machine_laws.specs.Frame.{FinishesStay, EventsStay, is_grounded}
use Rattle.protocol_laws.proofs.Due.DueCaseByCase.{IfDue, due_holds, do_holds}

-- the same number, and the same in flight
record Stays (s t : Shard) : Type 0 where
  number : t.shard ≡ s.shard
  flight : t.flight ≡ s.flight

stays : (s : Shard) → Stays s s
stays s = record { number = refl; flight = refl }

chain : (s t u : Shard) → Stays s t → Stays t u → Stays s u
chain s t u p q = record { number = q.number ∙ p.number; flight = q.flight ∙ p.flight }

-- ---- what is due

vote_stays : (s : Shard) (tx : TxId) (v : Voter) (x : Vote) → Stays s (finish_reader tx x (with_vote s tx v x))
vote_stays s tx v Yes = record { number = refl; flight = refl }
vote_stays s tx v Read = record { number = refl; flight = refl }
vote_stays s tx v (No why) = record { number = refl; flight = refl }

rule_stays : (s : Shard) (tx : TxId) (q : Request) (r : Ruling) → Stays s (do_ruling tx r (with_ruling tx q r s))
rule_stays s tx q (CommitVerdict parts) = record { number = refl; flight = refl }
rule_stays s tx q Acknowledge = record { number = refl; flight = refl }
rule_stays s tx q (AbortVerdict cause to) = record { number = refl; flight = refl }
rule_stays s tx q EndVerdict = record { number = refl; flight = refl }

due_stays : (s : Shard) (tx : TxId) → IfDue (Stays s) (due_of s tx)
due_stays s tx = due_holds (Stays s) s tx (λ e. record { number = refl; flight = refl }) (λ v x e f. vote_stays s tx v x) (λ q r e f. rule_stays s tx q r)

do_stays : (n : ℕ) (s : Shard) → Stays s (do_due n s)
do_stays = do_holds Stays stays chain due_stays

finish_stays : (s t : Shard) → Stays s t → Stays s (finish t)
finish_stays s t p = let q = do_stays (work t) t in record { number = q.number ∙ p.number; flight = q.flight ∙ p.flight }

pub finishes_stay : FinishesStay
finishes_stay s = let q = do_stays (work s) s in (q.number, q.flight)

-- ---- events

StaysAfter : Shard → Reply → Type 0
StaysAfter s (QuietBeforeWorn o) = Unit {0}
StaysAfter s (QuietAfterWorn o) = Unit {0}
StaysAfter s (Does o t) = Stays s t

after_both : (s : Shard) (b : Bool) (x y : Reply) → StaysAfter s x → StaysAfter s y → StaysAfter s (cond b x y)
after_both s true x y p q = p
after_both s false x y p q = q

same : (s t : Shard) → t.shard ≡ s.shard → t.flight ≡ s.flight → Stays s (finish t)
same s t a b = finish_stays s t (record { number = a; flight = b })

op_stays : (s : Shard) (r : OpReply) → StaysAfter s (op_event s r)
unfolding StaysAfter
op_stays s (OpWaits t) = tt
op_stays s (OpCrowded m) = tt
op_stays s (OpDies c l) = same s (record s { local = l }) refl refl
op_stays s (OpAnswers a l) = same s (record s { local = l }) refl refl

rolled_stays : (s : Shard) (tx : TxId) (n : ℕ) (st : Option Stage) → StaysAfter s (roll_by_stage s tx n st)
unfolding StaysAfter
rolled_stays s tx n (Some (Gone (Some x))) = same s s refl refl
rolled_stays s tx n (Some (Gone None)) = same s s refl refl
rolled_stays s tx n (Some Closed) = same s s refl refl
rolled_stays s tx n (Some Active) = same s (with_local (roll_to tx n) s) refl refl
rolled_stays s tx n None = same s s refl refl

roll_stays : (s : Shard) (tx : TxId) (seen upto : ℕ) (b : Bool) → StaysAfter s (roll_event s tx seen upto b)
unfolding StaysAfter
roll_stays s tx seen upto false = same s s refl refl
roll_stays s tx seen upto true = rolled_stays s tx (count_after upto (standing_numbers tx s.journal)) (stage_of s.local tx)

asked_stays : (s : Shard) (tx : TxId) (touched : List (ℕ × ℕ)) (st : Option Stage) → StaysAfter s (request_by_stage s tx touched st)
unfolding StaysAfter
asked_stays s tx touched (Some (Gone (Some x))) = same s s refl refl
asked_stays s tx touched (Some (Gone None)) = same s s refl refl
asked_stays s tx touched (Some Closed) = same s s refl refl
asked_stays s tx touched (Some Active) = same s (coordinate tx touched (with_local (close_part tx s.shard (is_alone (others s.shard touched))) s)) refl refl
asked_stays s tx touched None = same s (coordinate tx touched s) refl refl

request_event_stays : (s : Shard) (tx : TxId) (touched : List (ℕ × ℕ)) (b : Bool) → StaysAfter s (request_event s tx touched b)
unfolding StaysAfter
request_event_stays s tx touched false = same s s refl refl
request_event_stays s tx touched true = asked_stays s tx touched (stage_of s.local tx)

state_stays : (s : Shard) (st : RequestState) → StaysAfter s (look_state s st)
unfolding StaysAfter
state_stays s Undecided = tt
state_stays s (Committed parts) = tt
state_stays s Finished = same s s refl refl
state_stays s (Refused cause) = same s s refl refl

lost_stays : (s : Shard) (tx : TxId) (o : Option ℕ) → StaysAfter s (look_lost s tx o)
unfolding StaysAfter
lost_stays s tx None = tt
lost_stays s tx (Some e) = after_both s (e == s.local.epoch) _ _ tt (same s s refl refl)

known_stays : (s : Shard) (tx : TxId) (o : Option Request) → StaysAfter s (look_known s tx o)
unfolding StaysAfter
known_stays s tx (Some q) = state_stays s q.state
known_stays s tx None = after_both s (committed_in s.local.log tx) _ _ tt (lost_stays s tx (request_epoch s.shard tx s.journal))

drop_stays : (s : Shard) (tx : TxId) (st : Option Stage) → StaysAfter s (drop_event s tx st)
unfolding StaysAfter
drop_stays s tx None = tt
drop_stays s tx (Some st) = same s (with_local (drop_part tx) s) refl refl

prepare_stays : (s : Shard) (tx : TxId) (home seen : ℕ) (st : Option Stage) → StaysAfter s (on_prepare s tx home seen st)
unfolding StaysAfter
prepare_stays s tx home seen (Some Active) = same s (owe_vote tx home seen (with_local (close_part tx home false) s)) refl refl
prepare_stays s tx home seen (Some Closed) = same s (owe_vote tx home seen s) refl refl
prepare_stays s tx home seen (Some (Gone x)) = same s (owe_vote tx home seen s) refl refl
prepare_stays s tx home seen None = after_both s (seen == s.local.epoch) _ _ tt (same s (owe_vote tx home seen s) refl refl)

on_vote_stays : (s : Shard) (tx : TxId) (from : ℕ) (vote : Vote) (o : Option Request) → StaysAfter s (on_vote s tx from vote o)
unfolding StaysAfter
on_vote_stays s tx from vote None = tt
on_vote_stays s tx from vote (Some q) = after_both s (takes_vote s.shard from q) _ _ (same s (with_votes tx from vote q s) refl refl) tt

decided_stays : (s : Shard) (tx : TxId) (commit : Bool) → Stays s (decided s tx commit)
decided_stays s tx true = record { number = refl; flight = refl }
decided_stays s tx false = record { number = refl; flight = refl }

decide_stays : (s : Shard) (tx : TxId) (home : ℕ) (commit : Bool) (t : DecisionTaken) → StaysAfter s (on_decide s tx home commit t)
unfolding StaysAfter
decide_stays s tx home commit IsAwaited = finish_stays s (decided s tx commit) (decided_stays s tx commit)
decide_stays s tx home commit IsDone = same s (send (Done home tx s.shard ∷ []) s) refl refl
decide_stays s tx home commit IsStale = tt

on_done_stays : (s : Shard) (tx : TxId) (from : ℕ) (o : Option Request) → StaysAfter s (on_done s tx from o)
unfolding StaysAfter
on_done_stays s tx from None = tt
on_done_stays s tx from (Some q) = after_both s (takes_done from q) _ _ (same s (with_done tx from q s) refl refl) tt

message_stays : (s : Shard) (m : Message) → StaysAfter s (on_message s m)
unfolding StaysAfter
message_stays s (Prepare to tx home seen) = prepare_stays s tx home seen (stage_of s.local tx)
message_stays s (VoteMessage to tx from vote) = on_vote_stays s tx from vote (tx_get tx s.requests)
message_stays s (Decide to tx home commit) = decide_stays s tx home commit (taken_by (facts_of s tx) commit)
message_stays s (Done to tx from) = on_done_stays s tx from (tx_get tx s.requests)
message_stays s (Ask to tx from) = same s (send (ask_messages s tx from (ask_answer (tx_get tx s.requests) (facts_of s tx))) s) refl refl

send_stays : (s : Shard) (ms : List Message) → StaysAfter s (send_event s ms)
unfolding StaysAfter
send_stays s [] = tt
send_stays s (m ∷ ms) = same s (with_outbox ms s) refl refl

remind_stays : (s : Shard) (os ms : List Message) → StaysAfter s (remind_with s os ms)
unfolding StaysAfter
remind_stays s [] (m ∷ ms) = same s (send (m ∷ ms) s) refl refl
remind_stays s [] [] = tt
remind_stays s (o ∷ os) ms = tt

up_stays : (s : Shard) (e : Event) → is_grounded e ≡ true → StaysAfter s (happen_up s e)
unfolding StaysAfter
up_stays s (OpEvent tx birth nth seen op) g = op_stays s (op_reply s.shard s.local tx birth seen op)
up_stays s (RollTo tx nth seen upto) g = roll_stays s tx seen upto (seen == s.local.epoch)
up_stays s (RequestEvent tx touched) g = request_event_stays s tx touched (seen_fits s.local.epoch (epoch_in s.shard touched))
up_stays s (Look tx) g = after_both s (has_durable_commit (facts_of s tx)) _ _ (same s s refl refl) (known_stays s tx (tx_get tx s.requests))
up_stays s (Drop tx) g = drop_stays s tx (stage_of s.local tx)
up_stays s Send g = send_stays s s.outbox
up_stays s (Deliver message stamp) g = after_both s (to_of message == s.shard) _ _ (message_stays s message) tt
up_stays s Remind g = remind_stays s s.outbox (reminders s)
up_stays s FlushOut g = absurd (both_ways false refl g)
up_stays s FlushIn g = tt
up_stays s Stop g = record { number = refl; flight = refl }
up_stays s Restart g = tt

pub events_stay : EventsStay
unfolding StaysAfter
events_stay s t e o q g = let h = subst (StaysAfter s) q (up_stays s e g) in (h.number, h.flight)
