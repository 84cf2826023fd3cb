-- No event changes the number of a shard, its run, or the entries in its journal.
use Rattle.std.proofs.Common.{◌≡◌, ℕ, zero, suc, ◌+◌, Bool, true, false, cond, ◌==◌, List, [], ◌∷◌, Option, Some, None, refl, subst, ◌∙◌}
use Rattle.std.specs.Prelude.{⊤}
use Rattle.clv_base.specs.declared.names.TxId.{TxId}
use Rattle.clv_base.specs.declared.state.Stage.{Stage}
use Rattle.clv_base.specs.declared.state.Stage.TheVariants.{Active, Closed, Gone}
use Rattle.clv_base.specs.declared.state.Voter.{Voter}
use Rattle.clv_base.specs.declared.state.Request.{Request}
use Rattle.clv_base.specs.declared.state.RequestState.{RequestState}
use Rattle.clv_base.specs.declared.state.RequestState.TheVariants.{Undecided, Committed, Finished, Refused}
use Rattle.clv_base.specs.declared.state.Ruling.{Ruling}
use Rattle.clv_base.specs.declared.state.Ruling.TheVariants.{Commit as CommitRuling, Acknowledge, Abort as AbortRuling, End as EndRuling}
use Rattle.clv_base.specs.declared.causes.Vote.{Vote}
use Rattle.clv_base.specs.declared.causes.Vote.TheVariants.{Yes, Read, No}
use Rattle.clv_base.specs.declared.messages.Message.{Message}
use Rattle.clv_base.specs.declared.messages.Message.TheVariants.{Prepare as PrepareMessage, Vote as VoteMessage, Decide, Done, Ask}
use Rattle.clv_base.specs.declared.events.Event.{Event}
use Rattle.clv_base.specs.declared.events.Event.TheVariants.{Op as OpEvent, RollTo, Request as RequestEvent, Look, Drop, Send, Deliver, Remind, FlushOut, FlushIn, Stop, Restart as RestartEvent}
use Rattle.clv_base.specs.declared.events.Outcome.{Outcome}
use Rattle.clv_base.specs.Orders.{tx_get}
use Rattle.clv_base.specs.State.{Shard, with_local}
use Rattle.clv_base.specs.declared.state.Taken.{Taken}
use Rattle.clv_base.specs.declared.state.Taken.TheVariants.{Done as IsDone, Waiting as IsAwaited, Stale as IsStale}
use Rattle.clv_base.specs.Undo.{stage_of, roll_to}
use Rattle.clv_base.specs.Backs.{standing_numbers, count_after}
use Rattle.clv_base.specs.Facts.{facts_of, has_durable_commit}
use Rattle.clv_base.specs.Participant.{vote_by, taken_by}
use Rattle.clv_base.specs.Coordinator.{ruling_by, takes_vote, takes_done, others, ask_answer}
use Rattle.clv_base.specs.OneShard.{OpReply, OpWaits, OpCrowded, OpDies, OpAnswers, seen_fits, op_reply, close_part, drop_part}
use Rattle.clv_base.specs.Logs.{committed_in}
use Rattle.clv_base.specs.Due.{send, or_else, commit_due, give_vote, vote_due, rule, request_due, due_of, first_due, known_txs, next_due, do_due, work}
use Rattle.clv_base.specs.Events.{Reply, QuietBeforeWorn, QuietAfterWorn, Does, finish, is_alone, coordinate, owe_vote, with_votes, with_done, decided, ask_messages, with_outbox, with_flight, with_durable, op_event, roll_by_stage, roll_event, epoch_in, request_by_stage, request_event, look_lost, look_state, look_known, look_event, request_epoch, drop_event, on_prepare, on_vote, on_decide, on_done, on_message, to_of, send_event, remind_with, reminders, out_event, landed, happen_up, happen}
use Rattle.clv_base.proofs.Settling.{do_due_at}
use Rattle.clv_base.specs.declared.events.Entry.{Entry}

-- what of a shard no event changes
abbrev pub Frame : Type 0
Frame = ℕ × (ℕ × List Entry)

abbrev pub frame_of : Shard → Frame
frame_of s = (s.shard, (s.run, s.journal))

-- ---- what is due

Stays : Frame → Option Shard → Type 0
Stays n None = ⊤
Stays n (Some t) = frame_of t ≡ n

stays_cond : (n : Frame) (b : Bool) (t : Shard) → frame_of t ≡ n → Stays n (cond b (Some t) None)
unfolding Stays
stays_cond n true t e = e
stays_cond n false t e = tt

stays_or : (n : Frame) (x y : Option Shard) → Stays n x → Stays n y → Stays n (or_else x y)
unfolding Stays
stays_or n None y p q = q
stays_or n (Some t) y p q = p

commits : (s : Shard) (tx : TxId) (o : Option Stage) → Stays (frame_of s) (commit_due s tx o)
unfolding Stays
commits s tx None = tt
commits s tx (Some Active) = tt
commits s tx (Some Closed) = stays_cond (frame_of s) (has_durable_commit (facts_of s tx)) _ refl
commits s tx (Some (Gone d)) = tt

gives : (s : Shard) (tx : TxId) (v : Voter) (o : Option Vote) → Stays (frame_of s) (give_vote s tx v o)
unfolding Stays
gives s tx v None = tt
gives s tx v (Some Yes) = refl
gives s tx v (Some Read) = refl
gives s tx v (Some (No why)) = refl

votes : (s : Shard) (tx : TxId) (o : Option Voter) → Stays (frame_of s) (vote_due s tx o)
unfolding Stays
votes s tx None = tt
votes s tx (Some v) = gives s tx v (vote_by (facts_of s tx) v)

rules : (s : Shard) (tx : TxId) (q : Request) (o : Option Ruling) → Stays (frame_of s) (rule s tx q o)
unfolding Stays
rules s tx q None = tt
rules s tx q (Some (CommitRuling parts)) = refl
rules s tx q (Some Acknowledge) = refl
rules s tx q (Some (AbortRuling cause to)) = refl
rules s tx q (Some EndRuling) = refl

requests : (s : Shard) (tx : TxId) (o : Option Request) → Stays (frame_of s) (request_due s tx o)
unfolding Stays
requests s tx None = tt
requests s tx (Some q) = rules s tx q (ruling_by s.shard tx q (facts_of s tx))

due : (s : Shard) (tx : TxId) → Stays (frame_of s) (due_of s tx)
due s tx =
    stays_or (frame_of s) (commit_due s tx (stage_of s.local tx)) _ (commits s tx (stage_of s.local tx))
    (stays_or (frame_of s) (vote_due s tx (tx_get tx s.voters)) (request_due s tx (tx_get tx s.requests)) (votes s tx (tx_get tx s.voters)) (requests s tx (tx_get tx s.requests)))

stays_first : (n : Frame) (x y : Option Shard) → Stays n x → Stays n y → Stays n (elim x [ Some t ↦ Some t | None ↦ y ])
unfolding Stays
stays_first n None y p q = q
stays_first n (Some t) y p q = p

first : (s : Shard) (txs : List TxId) → Stays (frame_of s) (first_due s txs)
unfolding Stays
first s [] = tt
first s (tx ∷ txs) = stays_first (frame_of s) (due_of s tx) (first_due s txs) (due s tx) (first s txs)

does_case : (n : ℕ) (m : Frame) (s : Shard) (o : Option Shard) → frame_of s ≡ m → Stays m o → ((t : Shard) → frame_of (do_due n t) ≡ frame_of t) → frame_of (do_due_at n s o) ≡ m
unfolding Stays
does_case n m s None e p k = e
does_case n m s (Some t) e p k = k t ∙ p

does : (n : ℕ) (s : Shard) → frame_of (do_due n s) ≡ frame_of s
does zero s = refl
does (suc n) s = does_case n (frame_of s) s (next_due s) refl (first s (known_txs s)) (does n)

finished : (s : Shard) → frame_of (finish s) ≡ frame_of s
finished s = does (work s) s

-- ---- events

Replies : Frame → Reply → Type 0
Replies n (QuietBeforeWorn o) = ⊤
Replies n (QuietAfterWorn o) = ⊤
Replies n (Does o t) = frame_of t ≡ n

replies_cond : (n : Frame) (b : Bool) (x y : Reply) → Replies n x → Replies n y → Replies n (cond b x y)
replies_cond n true x y p q = p
replies_cond n false x y p q = q

operations : (s : Shard) (r : OpReply) → Replies (frame_of s) (op_event s r)
unfolding Replies
operations s (OpWaits younger) = tt
operations s (OpCrowded count) = tt
operations s (OpDies cause l) = finished (record s { local = l })
operations s (OpAnswers answer l) = finished (record s { local = l })

rolled_stage : (s : Shard) (tx : TxId) (n : ℕ) (o : Option Stage) → Replies (frame_of s) (roll_by_stage s tx n o)
unfolding Replies
rolled_stage s tx n None = finished s
rolled_stage s tx n (Some Active) = finished (with_local (roll_to tx n) s)
rolled_stage s tx n (Some Closed) = finished s
rolled_stage s tx n (Some (Gone None)) = finished s
rolled_stage s tx n (Some (Gone (Some d))) = finished s

rolls : (s : Shard) (tx : TxId) (seen upto : ℕ) (b : Bool) → Replies (frame_of s) (roll_event s tx seen upto b)
unfolding Replies
rolls s tx seen upto true = rolled_stage s tx (count_after upto (standing_numbers tx s.journal)) (stage_of s.local tx)
rolls s tx seen upto false = finished s

asked_stage : (s : Shard) (tx : TxId) (touched : List (ℕ × ℕ)) (o : Option Stage) → Replies (frame_of s) (request_by_stage s tx touched o)
unfolding Replies
asked_stage s tx touched None = finished (coordinate tx touched s)
asked_stage s tx touched (Some Active) = finished (coordinate tx touched (with_local (close_part tx s.shard (is_alone (others s.shard touched))) s))
asked_stage s tx touched (Some Closed) = finished s
asked_stage s tx touched (Some (Gone None)) = finished s
asked_stage s tx touched (Some (Gone (Some d))) = finished s

asks : (s : Shard) (tx : TxId) (touched : List (ℕ × ℕ)) (b : Bool) → Replies (frame_of s) (request_event s tx touched b)
unfolding Replies
asks s tx touched true = asked_stage s tx touched (stage_of s.local tx)
asks s tx touched false = finished s

lost : (s : Shard) (tx : TxId) (o : Option ℕ) → Replies (frame_of s) (look_lost s tx o)
unfolding Replies
lost s tx None = tt
lost s tx (Some e) = replies_cond (frame_of s) (e == s.local.epoch) _ _ tt (finished s)

looks_state : (s : Shard) (st : RequestState) → Replies (frame_of s) (look_state s st)
unfolding Replies
looks_state s Undecided = tt
looks_state s (Committed parts) = tt
looks_state s Finished = finished s
looks_state s (Refused cause) = finished s

looks_known : (s : Shard) (tx : TxId) (o : Option Request) → Replies (frame_of s) (look_known s tx o)
unfolding Replies
looks_known s tx (Some q) = looks_state s q.state
looks_known s tx None = replies_cond (frame_of s) (committed_in s.local.log tx) _ _ tt (lost s tx (request_epoch s.shard tx s.journal))

looks : (s : Shard) (tx : TxId) → Replies (frame_of s) (look_event s tx)
unfolding Replies
looks s tx = replies_cond (frame_of s) (has_durable_commit (facts_of s tx)) _ _ (finished s) (looks_known s tx (tx_get tx s.requests))

drops : (s : Shard) (tx : TxId) (o : Option Stage) → Replies (frame_of s) (drop_event s tx o)
unfolding Replies
drops s tx None = tt
drops s tx (Some st) = finished (with_local (drop_part tx) s)

prepares : (s : Shard) (tx : TxId) (home seen : ℕ) (o : Option Stage) → Replies (frame_of s) (on_prepare s tx home seen o)
unfolding Replies
prepares s tx home seen None = replies_cond (frame_of s) (seen == s.local.epoch) _ _ tt (finished (owe_vote tx home seen s))
prepares s tx home seen (Some Active) = finished (owe_vote tx home seen (with_local (close_part tx home false) s))
prepares s tx home seen (Some Closed) = finished (owe_vote tx home seen s)
prepares s tx home seen (Some (Gone d)) = finished (owe_vote tx home seen s)

takes : (s : Shard) (tx : TxId) (from : ℕ) (v : Vote) (o : Option Request) → Replies (frame_of s) (on_vote s tx from v o)
unfolding Replies
takes s tx from v None = tt
takes s tx from v (Some q) = replies_cond (frame_of s) (takes_vote s.shard from q) _ _ (finished (with_votes tx from v q s)) tt

decides : (s : Shard) (tx : TxId) (home : ℕ) (commit : Bool) (d : Taken) → Replies (frame_of s) (on_decide s tx home commit d)
unfolding Replies
decides s tx home true IsAwaited = finished (decided s tx true)
decides s tx home false IsAwaited = finished (decided s tx false)
decides s tx home commit IsDone = finished (send (Done home tx s.shard ∷ []) s)
decides s tx home commit IsStale = tt

dones : (s : Shard) (tx : TxId) (from : ℕ) (o : Option Request) → Replies (frame_of s) (on_done s tx from o)
unfolding Replies
dones s tx from None = tt
dones s tx from (Some q) = replies_cond (frame_of s) (takes_done from q) _ _ (finished (with_done tx from q s)) tt

messages : (s : Shard) (m : Message) → Replies (frame_of s) (on_message s m)
unfolding Replies
messages s (PrepareMessage to tx home seen) = prepares s tx home seen (stage_of s.local tx)
messages s (VoteMessage to tx from vote) = takes s tx from vote (tx_get tx s.requests)
messages s (Decide to tx home commit) = decides s tx home commit (taken_by (facts_of s tx) commit)
messages s (Done to tx from) = dones s tx from (tx_get tx s.requests)
messages s (Ask to tx from) = finished (send (ask_messages s tx from (ask_answer (tx_get tx s.requests) (facts_of s tx))) s)

sends : (s : Shard) (ms : List Message) → Replies (frame_of s) (send_event s ms)
unfolding Replies
sends s [] = tt
sends s (m ∷ ms) = finished (with_outbox ms s)

reminds : (s : Shard) (ms ns : List Message) → Replies (frame_of s) (remind_with s ms ns)
unfolding Replies
reminds s [] (m ∷ ms) = finished (send (m ∷ ms) s)
reminds s [] [] = tt
reminds s (o ∷ os) ms = tt

flushes : (s : Shard) (o : Option ℕ) (n : ℕ) → Replies (frame_of s) (out_event s o n)
unfolding Replies
flushes s o zero = tt
flushes s (Some n) (suc k) = tt
flushes s None (suc k) = finished (with_flight (s.durable + suc k) s)

up : (s : Shard) (e : Event) → Replies (frame_of s) (happen_up s e)
unfolding Replies
up s (OpEvent tx birth nth seen op) = operations s (op_reply s.shard s.local tx birth seen op)
up s (RollTo tx nth seen upto) = rolls s tx seen upto (seen == s.local.epoch)
up s (RequestEvent tx touched) = asks s tx touched (seen_fits s.local.epoch (epoch_in s.shard touched))
up s (Look tx) = looks s tx
up s (Drop tx) = drops s tx (stage_of s.local tx)
up s Send = sends s s.outbox
up s (Deliver m stamp) = replies_cond (frame_of s) (to_of m == s.shard) _ _ (messages s m) tt
up s Remind = reminds s s.outbox (reminders s)
up s FlushOut = flushes s s.flight _
up s FlushIn = tt
up s Stop = refl
up s RestartEvent = tt

either : (s : Shard) (e : Event) (b : Bool) (x : Outcome) → Replies (frame_of s) (elim b [ true ↦ happen_up s e | false ↦ QuietBeforeWorn x ])
unfolding Replies
either s e true x = up s e
either s e false x = tt

same_frame : (n : Frame) (o : Outcome) (t : Shard) → Replies n (Does o t) → frame_of t ≡ n
unfolding Replies
same_frame n o t r = r

pub happens_here : (s : Shard) (e : Event) (o : Outcome) (t : Shard) → happen s e ≡ Does o t → frame_of t ≡ frame_of s
happens_here s e o t eq = same_frame (frame_of s) o t (subst (Replies (frame_of s)) eq (either s e s.is_up _))

lands : (s : Shard) (n : ℕ) (b : Bool) → Replies (frame_of s) (landed s n b)
unfolding Replies
lands s n true = finished (with_durable n s)
lands s n false = refl

pub lands_here : (s : Shard) (n : ℕ) (b : Bool) (o : Outcome) (t : Shard) → landed s n b ≡ Does o t → frame_of t ≡ frame_of s
lands_here s n b o t eq = same_frame (frame_of s) o t (subst (Replies (frame_of s)) eq (lands s n b))
