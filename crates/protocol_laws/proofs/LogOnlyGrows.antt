-- Each event leaves the log with more behind it, and a shard that is up at rest.
pub mod DueGrowsLogs
pub mod GhostsGoUnnoticed
use Rattle.std.proofs.Common.{◌≡◌, refl, subst, ℕ, zero, suc, ◌+◌, true, false, cond, Bool, List, [], ◌∷◌, Option, Some, None, ◌==◌}
use Rattle.clv_base.specs.declared.names.TxId.{TxId}
use Rattle.clv_base.specs.declared.names.Birth.{Birth}
use Rattle.clv_base.specs.declared.ops.Op.{Op}
use Rattle.clv_base.specs.declared.ops.Answer.{Answer}
use Rattle.clv_base.specs.declared.causes.AbortCause.{AbortCause}
use Rattle.clv_base.specs.declared.causes.AbortCause.TheVariants.{Restarted as RestartedCause}
use Rattle.clv_base.specs.declared.causes.Vote.{Vote}
use Rattle.clv_base.specs.declared.messages.Message.{Message}
use Rattle.clv_base.specs.declared.messages.Message.TheVariants.{Prepare, Vote as VoteMessage, Decide, Done, Ask}
use Rattle.clv_base.specs.declared.events.Event.{Event}
use Rattle.clv_base.specs.declared.events.Event.TheVariants.{Op as OpEvent, RollTo, Request as RequestEvent, Look, Drop, Send, Deliver, Remind, FlushOut, FlushIn, Stop, Restart}
use Rattle.clv_base.specs.declared.events.Outcome.{Outcome}
use Rattle.clv_base.specs.declared.events.Outcome.TheVariants.{Down, NotYet, Stale, Taken, Aborted, Acknowledged}
use Rattle.clv_base.specs.Orders.{tx_get}
use Rattle.clv_base.specs.declared.changes.Change.{Change}
use Rattle.clv_base.specs.Logs.{committed_in}
use Rattle.clv_base.specs.Locks.{decide}
use Rattle.clv_base.specs.declared.modes.Decision.{Decision}
use Rattle.clv_base.specs.declared.modes.Decision.TheVariants.{Grant, Wait, Die}
use Rattle.clv_base.specs.State.{Shard, Local, with_local, is_present}
use Rattle.clv_base.specs.declared.state.Taken.{Taken as DecisionTaken}
use Rattle.clv_base.specs.declared.state.Taken.TheVariants.{Done as IsDone, Waiting as IsAwaited, Stale as IsStale}
use Rattle.clv_base.specs.declared.state.Stage.{Stage}
use Rattle.clv_base.specs.declared.state.Stage.TheVariants.{Active, Closed, Gone}
use Rattle.clv_base.specs.declared.state.Request.{Request}
use Rattle.clv_base.specs.declared.state.RequestState.{RequestState}
use Rattle.clv_base.specs.declared.state.RequestState.TheVariants.{Undecided, Committed, Finished, Refused}
use Rattle.clv_base.specs.Undo.{stage_of, roll_back, roll_to}
use Rattle.clv_base.specs.Backs.{standing_numbers, count_after}
use Rattle.clv_base.specs.Facts.{facts_of, has_durable_commit}
use Rattle.clv_base.specs.Participant.{taken_by}
use Rattle.clv_base.specs.Coordinator.{others, takes_vote, takes_done, ask_answer}
use Rattle.clv_base.specs.OneShard.{OpReply, OpWaits, OpCrowded, OpDies, OpAnswers, written, locked, rolled_back_if, without_part, op_granted, op_decided, op_by_stage, op_seen, op_reply, seen_fits, close_part, drop_part}
use Rattle.clv_base.specs.Due.{send}
use Rattle.clv_base.specs.Needs.{needs_of, writes_of, value_at, key_of}
use Rattle.clv_base.specs.Events.{Reply, QuietBeforeWorn, Does, finish, op_event, roll_by_stage, roll_event, epoch_in, request_by_stage, request_event, look_lost, look_state, look_known, look_event, drop_event, on_prepare, on_vote, decided, on_decide, on_done, on_message, send_event, remind_with, reminders, out_event, happen_up, coordinate, is_alone, request_epoch, owe_vote, with_votes, with_done, with_outbox, with_flight, ask_messages, to_of}
use Rattle.clv_base.specs.Events.{QuietAfterWorn, happen, landed, put_down, with_durable}
use Rattle.clv_base.specs.declared.logs.LogRecord.{LogRecord}
use Rattle.clv_base.specs.declared.events.Outcome.TheVariants.{Durable}
use Rattle.clv_base.specs.Journals.{event_state, reply_state, flush_state}
use Rattle.protocol_laws.specs.Growth.{IsPrefixOf, LogOnlyGrows, EntriesKeepLogs, is_restart}
use Rattle.protocol_laws.specs.Resting.{IsAtRest, EventsEndAtRest}
use Rattle.protocol_laws.proofs.LogOnlyGrows.DueGrowsLogs.{same, more, more_twice, chain, grows_settled}
use Rattle.protocol_laws.proofs.LogOnlyGrows.GhostsGoUnnoticed.{rests}
use Rattle.std.proofs.lemmas.Bool.{both_ways}

-- where there is a next state, its log is the one before with more behind it, and if it is up it is at rest
data ReplyGrows (s : Shard) : Reply → Type 0 where
  early : {o : Outcome} → ReplyGrows s (QuietBeforeWorn o)
  late : {o : Outcome} → ReplyGrows s (QuietAfterWorn o)
  does : {o : Outcome} {t : Shard} → IsPrefixOf s.local.log t.local.log → (t.is_up ≡ true → IsAtRest t) → ReplyGrows s (Does o t)

-- what is finished from a log that grew
finished : (s u : Shard) (o : Outcome) → IsPrefixOf s.local.log u.local.log → ReplyGrows s (Does o (finish u))
finished s u o g = does (chain s.local.log u.local.log _ g (grows_settled u)) (λ h. rests u)

stops : (s : Shard) (o : Outcome) → ReplyGrows s (Does o (put_down s))
stops s o = does (same s.local.log) (λ h. absurd (both_ways false refl h))

unchanged : (s u : Shard) (o : Outcome) → s.local.log ≡ u.local.log → ReplyGrows s (Does o (finish u))
unchanged s u o e = finished s u o (subst (λ l. IsPrefixOf s.local.log l) e (same s.local.log))

at_cond : (s : Shard) (b : Bool) (x y : Reply) → ReplyGrows s x → ReplyGrows s y → ReplyGrows s (cond b x y)
at_cond s true x y p q = p
at_cond s false x y p q = q

rolled : (l : Local) (tx : TxId) → IsPrefixOf l.log (roll_back tx l).log
rolled l tx = more_twice l.log _ _

pub rolled_if : (l : Local) (tx : TxId) (b : Bool) → IsPrefixOf l.log (rolled_back_if b tx l).log
rolled_if l tx true = rolled l tx
rolled_if l tx false = same l.log

without : (l : Local) (tx : TxId) → IsPrefixOf l.log (without_part tx l).log
without l tx = rolled_if l tx (is_present (stage_of l tx))

pub writes : (l : Local) (tx : TxId) (w : Option (ℕ × Change)) → IsPrefixOf l.log (written tx w l).log
writes l tx None = same l.log
writes l tx (Some w) = more l.log _

-- where an operation leaves a state, its log is the one before with more behind it
data OpGrows (l : Local) : OpReply → Type 0 where
  waits : {y : TxId} → OpGrows l (OpWaits y)
  no_room : {n : ℕ} → OpGrows l (OpCrowded n)
  dies : {c : AbortCause} {m : Local} → IsPrefixOf l.log m.log → OpGrows l (OpDies c m)
  answers : {a : Answer} {m : Local} → IsPrefixOf l.log m.log → OpGrows l (OpAnswers a m)

granted : (l : Local) (tx : TxId) (birth : Birth) (op : Op) (b : Bool) → OpGrows l (op_granted l tx birth op b)
granted l tx birth op true = no_room
granted l tx birth op false = answers (writes (locked tx birth op l) tx (writes_of op (value_at (key_of op) l.records)))

by_decision : (l : Local) (tx : TxId) (birth : Birth) (op : Op) (d : Decision) → OpGrows l (op_decided l tx birth op d)
by_decision l tx birth op Grant = granted l tx birth op _
by_decision l tx birth op (Wait y) = waits
by_decision l tx birth op (Die o) = dies (without l tx)

by_stage : (l : Local) (tx : TxId) (birth : Birth) (op : Op) (st : Option Stage) → OpGrows l (op_by_stage l tx birth op st)
by_stage l tx birth op None = by_decision l tx birth op (decide tx birth (needs_of op l.records) l.locks)
by_stage l tx birth op (Some Active) = by_decision l tx birth op (decide tx birth (needs_of op l.records) l.locks)
by_stage l tx birth op (Some Closed) = dies (same l.log)
by_stage l tx birth op (Some (Gone None)) = dies (same l.log)
by_stage l tx birth op (Some (Gone (Some d))) = dies (same l.log)

by_seen : (shard : ℕ) (l : Local) (tx : TxId) (birth : Birth) (seen : Option ℕ) (op : Op) (b : Bool) → OpGrows l (op_seen shard l tx birth seen op b)
by_seen shard l tx birth seen op true = by_stage l tx birth op (stage_of l tx)
by_seen shard l tx birth seen op false = dies (without l tx)

operation : (s : Shard) (r : OpReply) → OpGrows s.local r → ReplyGrows s (op_event s r)
operation s (OpWaits y) g = late
operation s (OpCrowded n) g = late
operation s (OpDies c m) (dies g) = finished s (record s { local = m }) _ g
operation s (OpAnswers a m) (answers g) = finished s (record s { local = m }) _ g

rolls_by_stage : (s : Shard) (tx : TxId) (n : ℕ) (st : Option Stage) → ReplyGrows s (roll_by_stage s tx n st)
rolls_by_stage s tx n None = unchanged s s _ refl
rolls_by_stage s tx n (Some Active) = finished s (with_local (roll_to tx n) s) _ (more s.local.log _)
rolls_by_stage s tx n (Some Closed) = unchanged s s _ refl
rolls_by_stage s tx n (Some (Gone None)) = unchanged s s _ refl
rolls_by_stage s tx n (Some (Gone (Some d))) = unchanged s s _ refl

rolls : (s : Shard) (tx : TxId) (seen upto : ℕ) (b : Bool) → ReplyGrows s (roll_event s tx seen upto b)
rolls s tx seen upto true = rolls_by_stage s tx (count_after upto (standing_numbers tx s.journal)) (stage_of s.local tx)
rolls s tx seen upto false = unchanged s s _ refl

asked : (s : Shard) (tx : TxId) (ts : List (ℕ × ℕ)) (st : Option Stage) → ReplyGrows s (request_by_stage s tx ts st)
asked s tx ts None = finished s (coordinate tx ts s) _ (same s.local.log)
asked s tx ts (Some Active) = finished s (coordinate tx ts (with_local (close_part tx s.shard (is_alone (others s.shard ts))) s)) _ (more s.local.log _)
asked s tx ts (Some Closed) = unchanged s s _ refl
asked s tx ts (Some (Gone None)) = unchanged s s _ refl
asked s tx ts (Some (Gone (Some d))) = unchanged s s _ refl

request : (s : Shard) (tx : TxId) (ts : List (ℕ × ℕ)) (b : Bool) → ReplyGrows s (request_event s tx ts b)
request s tx ts true = asked s tx ts (stage_of s.local tx)
request s tx ts false = unchanged s s _ refl

lost : (s : Shard) (tx : TxId) (e : Option ℕ) → ReplyGrows s (look_lost s tx e)
lost s tx None = early
lost s tx (Some e) = at_cond s (e == s.local.epoch) (QuietBeforeWorn NotYet) (Does (Aborted (RestartedCause s.shard e s.local.epoch)) (finish s)) early (unchanged s s _ refl)

ruled : (s : Shard) (r : RequestState) → ReplyGrows s (look_state s r)
ruled s Undecided = early
ruled s (Committed ps) = early
ruled s Finished = unchanged s s _ refl
ruled s (Refused c) = unchanged s s _ refl

known : (s : Shard) (tx : TxId) (q : Option Request) → ReplyGrows s (look_known s tx q)
known s tx None = at_cond s (committed_in s.local.log tx) (QuietBeforeWorn NotYet) (look_lost s tx (request_epoch s.shard tx s.journal)) early (lost s tx (request_epoch s.shard tx s.journal))
known s tx (Some q) = ruled s q.state

looked : (s : Shard) (tx : TxId) → ReplyGrows s (look_event s tx)
looked s tx = at_cond s (has_durable_commit (facts_of s tx)) (Does Acknowledged (finish s)) (look_known s tx (tx_get tx s.requests)) (unchanged s s _ refl) (known s tx (tx_get tx s.requests))

dropped : (s : Shard) (tx : TxId) (st : Option Stage) → ReplyGrows s (drop_event s tx st)
dropped s tx None = early
dropped s tx (Some stage) = finished s (with_local (drop_part tx) s) _ (without s.local tx)

prepares : (s : Shard) (tx : TxId) (home seen : ℕ) (st : Option Stage) → ReplyGrows s (on_prepare s tx home seen st)
prepares s tx home seen None = at_cond s (seen == s.local.epoch) (QuietBeforeWorn Stale) (Does Taken (finish (owe_vote tx home seen s))) early (finished s (owe_vote tx home seen s) _ (same s.local.log))
prepares s tx home seen (Some Active) = finished s (owe_vote tx home seen (with_local (close_part tx home false) s)) _ (more s.local.log _)
prepares s tx home seen (Some Closed) = finished s (owe_vote tx home seen s) _ (same s.local.log)
prepares s tx home seen (Some (Gone d)) = finished s (owe_vote tx home seen s) _ (same s.local.log)

votes : (s : Shard) (tx : TxId) (from : ℕ) (v : Vote) (q : Option Request) → ReplyGrows s (on_vote s tx from v q)
votes s tx from v None = early
votes s tx from v (Some q) =
    at_cond s (takes_vote s.shard from q) (Does Taken (finish (with_votes tx from v q s))) (QuietBeforeWorn Stale) (finished s (with_votes tx from v q s) _ (same s.local.log)) early

dones : (s : Shard) (tx : TxId) (from : ℕ) (q : Option Request) → ReplyGrows s (on_done s tx from q)
dones s tx from None = early
dones s tx from (Some q) =
    at_cond s (takes_done from q) (Does Taken (finish (with_done tx from q s))) (QuietBeforeWorn Stale) (finished s (with_done tx from q s) _ (same s.local.log)) early

decides : (s : Shard) (tx : TxId) (commit : Bool) → IsPrefixOf s.local.log (decided s tx commit).local.log
decides s tx true = more s.local.log _
decides s tx false = rolled s.local tx

decision : (s : Shard) (tx : TxId) (home : ℕ) (commit : Bool) (d : DecisionTaken) → ReplyGrows s (on_decide s tx home commit d)
decision s tx home commit IsAwaited = finished s (decided s tx commit) _ (decides s tx commit)
decision s tx home commit IsDone = finished s (send (Done home tx s.shard ∷ []) s) _ (same s.local.log)
decision s tx home commit IsStale = early

message : (s : Shard) (m : Message) → ReplyGrows s (on_message s m)
message s (Prepare to tx home seen) = prepares s tx home seen (stage_of s.local tx)
message s (VoteMessage to tx from vote) = votes s tx from vote (tx_get tx s.requests)
message s (Decide to tx home commit) = decision s tx home commit (taken_by (facts_of s tx) commit)
message s (Done to tx from) = dones s tx from (tx_get tx s.requests)
message s (Ask to tx from) = finished s (send (ask_messages s tx from (ask_answer (tx_get tx s.requests) (facts_of s tx))) s) _ (same s.local.log)

sends : (s : Shard) (ms : List Message) → ReplyGrows s (send_event s ms)
sends s [] = early
sends s (m ∷ ms) = finished s (with_outbox ms s) _ (same s.local.log)

reminds : (s : Shard) (out ms : List Message) → ReplyGrows s (remind_with s out ms)
reminds s [] [] = early
reminds s [] (m ∷ ms) = finished s (send (m ∷ ms) s) _ (same s.local.log)
reminds s (o ∷ os) ms = early

flushes : (s : Shard) (f : Option ℕ) (k : ℕ) → ReplyGrows s (out_event s f k)
flushes s None zero = early
flushes s (Some n) zero = early
flushes s None (suc k) = finished s (with_flight (s.durable + suc k) s) _ (same s.local.log)
flushes s (Some n) (suc k) = early

up : (s : Shard) (e : Event) → ReplyGrows s (happen_up s e)
up s (OpEvent tx birth nth seen op) = operation s (op_reply s.shard s.local tx birth seen op) (by_seen s.shard s.local tx birth seen op (seen_fits s.local.epoch seen))
up s (RollTo tx nth seen upto) = rolls s tx seen upto (seen == s.local.epoch)
up s (RequestEvent tx ts) = request s tx ts (seen_fits s.local.epoch (epoch_in s.shard ts))
up s (Look tx) = looked s tx
up s (Drop tx) = dropped s tx (stage_of s.local tx)
up s Send = sends s s.outbox
up s (Deliver m stamp) = at_cond s (to_of m == s.shard) (on_message s m) (QuietBeforeWorn Stale) (message s m) early
up s Remind = reminds s s.outbox (reminders s)
up s FlushOut = flushes s s.flight _
up s FlushIn = early
up s Stop = stops s _
up s Restart = early

all : (s : Shard) (e : Event) (b : Bool) → ReplyGrows s (elim b [ true ↦ happen_up s e | false ↦ QuietBeforeWorn Down ])
all s e true = up s e
all s e false = early

lands : (s : Shard) (n : ℕ) (b : Bool) → ReplyGrows s (landed s n b)
lands s n true = finished s (with_durable n s) _ (same s.local.log)
lands s n false = stops s _

from_reply : (s t : Shard) (o : Outcome) → ReplyGrows s (Does o t) → IsPrefixOf s.local.log t.local.log
from_reply s t o (does g r) = g

rest_reply : (s t : Shard) (o : Outcome) → ReplyGrows s (Does o t) → t.is_up ≡ true → IsAtRest t
rest_reply s t o (does g r) = r

happens : (s : Shard) (e : Event) → ReplyGrows s (happen s e)
happens s e = all s e s.is_up

pub log_only_grows : LogOnlyGrows
log_only_grows s t e o eq = from_reply s t o (subst (λ r. ReplyGrows s r) eq (happens s e))

pub events_end_at_rest : EventsEndAtRest
events_end_at_rest = (
  λ s t e o eq. rest_reply s t o (subst (λ r. ReplyGrows s r) eq (happens s e)),
  λ s t n b o eq. rest_reply s t o (subst (λ r. ReplyGrows s r) eq (lands s n b)),
)

-- ---- entries

state_grows : (s : Shard) (r : Reply) → ReplyGrows s r → IsPrefixOf s.local.log (reply_state s r).local.log
state_grows s (QuietBeforeWorn o) g = same s.local.log
state_grows s (QuietAfterWorn o) g = same s.local.log
state_grows s (Does o t) g = from_reply s t o g

flush_grows : (s : Shard) (o : Outcome) → IsPrefixOf s.local.log (flush_state s o).local.log
flush_grows s (Durable n) = state_grows s (landed s n true) (lands s n true)
flush_grows s _ = same s.local.log

event_grows : (log : List LogRecord) (s : Shard) (e : Event) (o : Outcome) → is_restart e ≡ false → IsPrefixOf s.local.log (event_state log s e o).local.log
event_grows log s FlushIn o n = flush_grows s o
event_grows log s Restart o n = absurd (both_ways true n refl)
event_grows log s e o n = state_grows s (happen s e) (happens s e)

pub entries_keep_logs : EntriesKeepLogs
entries_keep_logs log s e n = event_grows log s e.event e.outcome n
