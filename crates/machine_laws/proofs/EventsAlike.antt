-- Each event makes the same whatever the journal and the last stamp; of a look the epoch that the journal tells is all that counts, of a going back the
-- number of writes.
use Rattle.std.proofs.Common.{◌≡◌, refl, sym, ap, subst, ℕ, zero, suc, Bool, true, false, cond, ◌==◌, List, [], ◌∷◌, drop, Option, Some, None}
use Rattle.std.proofs.lemmas.Bool.{both_ways}
use Rattle.clv_base.specs.declared.names.TxId.{TxId}
use Rattle.clv_base.specs.declared.causes.Vote.{Vote}
use Rattle.clv_base.specs.declared.messages.Message.{Message}
use Rattle.clv_base.specs.declared.messages.Message.TheVariants.{Prepare, Vote as VoteMessage, Decide, Done, Ask}
use Rattle.clv_base.specs.declared.events.Event.TheVariants.{Op as OpEvent, RollTo, Request as RequestEvent, Look, Drop, Send, Deliver, Remind, FlushOut, FlushIn, Stop, Restart}
use Rattle.clv_base.specs.declared.events.Outcome.TheVariants.{Taken}
use Rattle.clv_base.specs.Orders.{tx_get}
use Rattle.clv_base.specs.Logs.{committed_in, fitting}
use Rattle.clv_base.specs.declared.state.Stage.{Stage}
use Rattle.clv_base.specs.declared.state.Stage.TheVariants.{Active, Closed, Gone}
use Rattle.clv_base.specs.declared.state.RequestState.{RequestState}
use Rattle.clv_base.specs.declared.state.RequestState.TheVariants.{Undecided, Committed, Finished, Refused}
use Rattle.clv_base.specs.declared.state.Request.{Request}
use Rattle.clv_base.specs.declared.state.Taken.{Taken as DecisionTaken}
use Rattle.clv_base.specs.declared.state.Taken.TheVariants.{Done as IsDone, Waiting as IsAwaited, Stale as IsStale}
use Rattle.clv_base.specs.State.{Shard, with_local}
use Rattle.clv_base.specs.Undo.{stage_of, roll_to}
use Rattle.clv_base.specs.Backs.{standing_numbers, count_after}
use Rattle.clv_base.specs.Facts.{facts_of, has_durable_commit}
use Rattle.clv_base.specs.Participant.{taken_by}
use Rattle.clv_base.specs.Coordinator.{others, takes_vote, takes_done}
use Rattle.clv_base.specs.OneShard.{OpReply, OpWaits, OpCrowded, OpDies, OpAnswers, seen_fits, op_reply, close_part, drop_part}
use Rattle.clv_base.specs.Events.{Reply, QuietBeforeWorn, Does, finish, op_event, roll_by_stage, roll_event, is_alone, epoch_in, coordinate, request_by_stage, request_event, look_lost, look_state, look_known, request_epoch, drop_event, owe_vote, on_prepare, with_votes, on_vote, decided, on_decide, with_done, on_done, on_message, to_of, with_outbox, send_event, reminders, remind_with, out_event, taken}
use Rattle.clv_base.specs.declared.events.Outcome.{Outcome}
use Rattle.clv_base.specs.declared.events.Entry.{Entry}
use Rattle.std.proofs.Common.{◌+◌}
use Rattle.clv_base.specs.Due.{send}
use Rattle.clv_base.specs.Events.{ask_messages, with_flight}
use Rattle.clv_base.specs.Coordinator.{ask_answer}
use Rattle.machine_laws.specs.Frame.{stamped_as, reply_as, EventsAlike, roll_in, RollsAlike, look_unknown, LooksAlike}
use Rattle.machine_laws.proofs.Alike.{finishes_alike}

-- the same, with these
Alike : ℕ → List Entry → Reply → Reply → Type 0
Alike l j r s = r ≡ reply_as l j s

both : (l : ℕ) (j : List Entry) (b : Bool) (x y v w : Reply) → Alike l j v x → Alike l j w y → Alike l j (cond b v w) (cond b x y)
both l j true x y v w p q = p
both l j false x y v w p q = q

done : (l : ℕ) (j : List Entry) (o : Outcome) (s : Shard) → Alike l j (Does o (finish (stamped_as true l j s))) (Does o (finish s))
unfolding Alike
done l j o s = ap (λ t. Does o t) (finishes_alike true l j s)

quiet : (l : ℕ) (j : List Entry) (o : Outcome) → Alike l j (QuietBeforeWorn o) (QuietBeforeWorn o)
unfolding Alike
quiet l j o = refl

op_alike : (l : ℕ) (j : List Entry) (s : Shard) (r : OpReply) → Alike l j (op_event (stamped_as true l j s) r) (op_event s r)
unfolding Alike
op_alike l j s (OpWaits t) = refl
op_alike l j s (OpCrowded n) = refl
op_alike l j s (OpDies c m) = done l j _ (record s { local = m })
op_alike l j s (OpAnswers a m) = done l j _ (record s { local = m })

asked_alike : (l : ℕ) (j : List Entry) (s : Shard) (tx : TxId) (touched : List (ℕ × ℕ)) (st : Option Stage) → Alike l j (request_by_stage (stamped_as true l j s) tx touched st) (request_by_stage s tx touched st)
asked_alike l j s tx touched (Some (Gone (Some x))) = done l j _ s
asked_alike l j s tx touched (Some (Gone None)) = done l j _ s
asked_alike l j s tx touched (Some Closed) = done l j _ s
asked_alike l j s tx touched (Some Active) = done l j _ (coordinate tx touched (with_local (close_part tx s.shard (is_alone (others s.shard touched))) s))
asked_alike l j s tx touched None = done l j _ (coordinate tx touched s)

request_alike : (l : ℕ) (j : List Entry) (s : Shard) (tx : TxId) (touched : List (ℕ × ℕ)) (b : Bool) → Alike l j (request_event (stamped_as true l j s) tx touched b) (request_event s tx touched b)
request_alike l j s tx touched false = done l j _ s
request_alike l j s tx touched true = asked_alike l j s tx touched (stage_of s.local tx)

drop_alike : (l : ℕ) (j : List Entry) (s : Shard) (tx : TxId) (st : Option Stage) → Alike l j (drop_event (stamped_as true l j s) tx st) (drop_event s tx st)
drop_alike l j s tx None = quiet l j _
drop_alike l j s tx (Some st) = done l j _ (with_local (drop_part tx) s)

prepare_alike : (l : ℕ) (j : List Entry) (s : Shard) (tx : TxId) (home seen : ℕ) (st : Option Stage) → Alike l j (on_prepare (stamped_as true l j s) tx home seen st) (on_prepare s tx home seen st)
prepare_alike l j s tx home seen (Some Active) = done l j _ (owe_vote tx home seen (with_local (close_part tx home false) s))
prepare_alike l j s tx home seen (Some Closed) = done l j _ (owe_vote tx home seen s)
prepare_alike l j s tx home seen (Some (Gone x)) = done l j _ (owe_vote tx home seen s)
prepare_alike l j s tx home seen None = both l j (seen == s.local.epoch) _ _ _ _ (quiet l j _) (done l j _ (owe_vote tx home seen s))

vote_alike : (l : ℕ) (j : List Entry) (s : Shard) (tx : TxId) (from : ℕ) (vote : Vote) (o : Option Request) → Alike l j (on_vote (stamped_as true l j s) tx from vote o) (on_vote s tx from vote o)
vote_alike l j s tx from vote None = quiet l j _
vote_alike l j s tx from vote (Some q) = both l j (takes_vote s.shard from q) _ _ _ _ (done l j _ (with_votes tx from vote q s)) (quiet l j _)

decided_alike : (l : ℕ) (j : List Entry) (s : Shard) (tx : TxId) (commit : Bool) → decided (stamped_as true l j s) tx commit ≡ stamped_as true l j (decided s tx commit)
decided_alike l j s tx true = refl
decided_alike l j s tx false = refl

decide_alike : (l : ℕ) (j : List Entry) (s : Shard) (tx : TxId) (home : ℕ) (commit : Bool) (t : DecisionTaken) → Alike l j (on_decide (stamped_as true l j s) tx home commit t) (on_decide s tx home commit t)
decide_alike l j s tx home commit IsAwaited = subst (λ t. Alike l j (Does Taken (finish t)) (Does Taken (finish (decided s tx commit)))) (sym (decided_alike l j s tx commit)) (done l j Taken (decided s tx commit))
decide_alike l j s tx home commit IsDone = done l j _ (send (Done home tx s.shard ∷ []) s)
decide_alike l j s tx home commit IsStale = quiet l j _

done_alike : (l : ℕ) (j : List Entry) (s : Shard) (tx : TxId) (from : ℕ) (o : Option Request) → Alike l j (on_done (stamped_as true l j s) tx from o) (on_done s tx from o)
done_alike l j s tx from None = quiet l j _
done_alike l j s tx from (Some q) = both l j (takes_done from q) _ _ _ _ (done l j _ (with_done tx from q s)) (quiet l j _)

answers_alike : (l : ℕ) (j : List Entry) (s : Shard) (tx : TxId) (from : ℕ) (o : Option Bool) → ask_messages (stamped_as true l j s) tx from o ≡ ask_messages s tx from o
answers_alike l j s tx from None = refl
answers_alike l j s tx from (Some commit) = refl

ask_alike : (l : ℕ) (j : List Entry) (s : Shard) (tx : TxId) (from : ℕ) (o : Option Bool)
    → Alike l j (Does Taken (finish (send (ask_messages (stamped_as true l j s) tx from o) (stamped_as true l j s)))) (Does Taken (finish (send (ask_messages s tx from o) s)))
ask_alike l j s tx from o =
    subst (λ ms. Alike l j (Does Taken (finish (send ms (stamped_as true l j s)))) (Does Taken (finish (send (ask_messages s tx from o) s)))) (sym (answers_alike l j s tx from o)) (done l j Taken (send (ask_messages s tx from o) s))

message_alike : (l : ℕ) (j : List Entry) (s : Shard) (m : Message) → Alike l j (on_message (stamped_as true l j s) m) (on_message s m)
message_alike l j s (Prepare to tx home seen) = prepare_alike l j s tx home seen (stage_of s.local tx)
message_alike l j s (VoteMessage to tx from vote) = vote_alike l j s tx from vote (tx_get tx s.requests)
message_alike l j s (Decide to tx home commit) = decide_alike l j s tx home commit (taken_by (facts_of s tx) commit)
message_alike l j s (Done to tx from) = done_alike l j s tx from (tx_get tx s.requests)
message_alike l j s (Ask to tx from) = ask_alike l j s tx from (ask_answer (tx_get tx s.requests) (facts_of s tx))

send_alike : (l : ℕ) (j : List Entry) (s : Shard) (ms : List Message) → Alike l j (send_event (stamped_as true l j s) ms) (send_event s ms)
send_alike l j s [] = quiet l j _
send_alike l j s (m ∷ ms) = done l j _ (with_outbox ms s)

remind_alike : (l : ℕ) (j : List Entry) (s : Shard) (os ms : List Message) → Alike l j (remind_with (stamped_as true l j s) os ms) (remind_with s os ms)
remind_alike l j s [] (m ∷ ms) = done l j _ (send (m ∷ ms) s)
remind_alike l j s [] [] = quiet l j _
remind_alike l j s (o ∷ os) ms = quiet l j _

out_alike : (l : ℕ) (j : List Entry) (s : Shard) (flight : Option ℕ) (n : ℕ) → Alike l j (out_event (stamped_as true l j s) flight n) (out_event s flight n)
out_alike l j s flight zero = quiet l j _
out_alike l j s (Some n) (suc k) = quiet l j _
out_alike l j s None (suc k) = done l j _ (with_flight (s.durable + suc k) s)

pub events_alike : EventsAlike
unfolding Alike
events_alike l j s (OpEvent tx birth nth seen op) p = op_alike l j s (op_reply s.shard s.local tx birth seen op)
events_alike l j s (RollTo tx nth seen upto) p = absurd (both_ways false refl p)
events_alike l j s (RequestEvent tx touched) p = request_alike l j s tx touched (seen_fits s.local.epoch (epoch_in s.shard touched))
events_alike l j s (Look tx) p = absurd (both_ways false refl p)
events_alike l j s (Drop tx) p = drop_alike l j s tx (stage_of s.local tx)
events_alike l j s Send p = send_alike l j s s.outbox
events_alike l j s (Deliver message stamp) p = both l j (to_of message == s.shard) _ _ _ _ (message_alike l j s message) (quiet l j _)
events_alike l j s Remind p = remind_alike l j s s.outbox (reminders s)
events_alike l j s FlushOut p = out_alike l j s s.flight (fitting 1048576 (drop (taken s) s.local.log))
events_alike l j s FlushIn p = refl
events_alike l j s Stop p = absurd (both_ways false refl p)
events_alike l j s Restart p = refl

-- ---- goings back

rolled_alike : (l : ℕ) (j : List Entry) (s : Shard) (tx : TxId) (n : ℕ) (st : Option Stage) → Alike l j (roll_by_stage (stamped_as true l j s) tx n st) (roll_by_stage s tx n st)
rolled_alike l j s tx n (Some (Gone (Some x))) = done l j _ s
rolled_alike l j s tx n (Some (Gone None)) = done l j _ s
rolled_alike l j s tx n (Some Closed) = done l j _ s
rolled_alike l j s tx n (Some Active) = done l j _ (with_local (roll_to tx n) s)
rolled_alike l j s tx n None = done l j _ s

roll_alike : (l : ℕ) (j : List Entry) (s : Shard) (tx : TxId) (seen upto : ℕ) (b : Bool)
    → Alike l j (roll_event (stamped_as true l j s) tx seen upto b) (roll_in s tx seen (count_after upto (standing_numbers tx j)) b)
roll_alike l j s tx seen upto false = done l j _ s
roll_alike l j s tx seen upto true = rolled_alike l j s tx (count_after upto (standing_numbers tx j)) (stage_of s.local tx)

pub rolls_alike : RollsAlike
unfolding Alike
rolls_alike l j s tx nth seen upto = roll_alike l j s tx seen upto (seen == s.local.epoch)

-- ---- looks

state_alike : (l : ℕ) (j : List Entry) (s : Shard) (st : RequestState) → Alike l j (look_state (stamped_as true l j s) st) (look_state s st)
state_alike l j s Undecided = quiet l j _
state_alike l j s (Committed parts) = quiet l j _
state_alike l j s Finished = done l j _ s
state_alike l j s (Refused cause) = done l j _ s

lost_alike : (l : ℕ) (j : List Entry) (s : Shard) (tx : TxId) (o : Option ℕ) → Alike l j (look_lost (stamped_as true l j s) tx o) (look_lost s tx o)
lost_alike l j s tx None = quiet l j _
lost_alike l j s tx (Some e) = both l j (e == s.local.epoch) _ _ _ _ (quiet l j _) (done l j _ s)

known_alike : (l : ℕ) (j : List Entry) (s : Shard) (tx : TxId) (o : Option Request) → Alike l j (look_known (stamped_as true l j s) tx o) (look_unknown s tx (request_epoch s.shard tx j) o)
known_alike l j s tx (Some q) = state_alike l j s q.state
known_alike l j s tx None = both l j (committed_in s.local.log tx) _ _ _ _ (quiet l j _) (lost_alike l j s tx (request_epoch s.shard tx j))

pub looks_alike : LooksAlike
unfolding Alike
looks_alike l j s tx = both l j (has_durable_commit (facts_of s tx)) _ _ _ _ (done l j _ s) (known_alike l j s tx (tx_get tx s.requests))
