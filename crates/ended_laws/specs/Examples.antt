-- Worked examples: a transaction that is over, and a part that a late Prepare still asks.
use Rattle.std.specs.Prelude.{◌≡◌, List, [], ◌∷◌, None, true, false}
use Rattle.clv_base.specs.declared.names.TxId.{TxId}
use Rattle.clv_base.specs.declared.names.Birth.{Birth}
use Rattle.clv_base.specs.declared.values.Value.TheVariants.{Num}
use Rattle.clv_base.specs.declared.ops.Op.TheVariants.{Get, Put}
use Rattle.clv_base.specs.declared.causes.Vote.TheVariants.{Yes, Read, No}
use Rattle.clv_base.specs.declared.causes.NoWhy.TheVariants.{Restarted as RestartedWhy}
use Rattle.clv_base.specs.declared.causes.AbortCause.{AbortCause}
use Rattle.clv_base.specs.declared.causes.AbortCause.TheVariants.{NoVote}
use Rattle.clv_base.specs.declared.messages.Message.TheVariants.{Prepare, Vote as VoteMessage, Done}
use Rattle.clv_base.specs.declared.events.Event.{Event}
use Rattle.clv_base.specs.declared.events.Event.TheVariants.{Op as OpEvent, Request as RequestEvent, Look, Deliver, FlushOut}
use Rattle.clv_base.specs.declared.events.Outcome.TheVariants.{Aborted, Stale, NotYet}
use Rattle.clv_base.specs.State.{Shard}
use Rattle.clv_base.specs.declared.state.RequestState.TheVariants.{Undecided, Committed, Refused}
use Rattle.clv_base.specs.declared.state.Request.{Request}
use Rattle.clv_base.specs.Restarts.{opened}
use Rattle.clv_base.specs.Coordinator.{new_request}
use Rattle.clv_base.specs.Events.{QuietBeforeWorn, Does, happen, landed}
use Rattle.clv_base.specs.Journals.{reply_state}
use Rattle.ended_laws.specs.Requests.{forgets, IsOver, IsSpent}
use Rattle.ended_laws.specs.Parts.{forgets_part, IsPast}

abbrev pub first_tx : TxId
first_tx = record { run = 1; session = 1; serial = 1 }

abbrev pub first_birth : Birth
first_birth = record { stamp = 1; session = 1; serial = 1 }

-- the shard after some events
abbrev pub made : Shard → List Event → Shard
made s [] = s
made s (e ∷ es) = made (reply_state s (happen s e)) es

-- it writes a key of shard 0 and asks to commit there; the flush of its UPDATE and its COMMIT, behind the RESTART, is under way, and ends
abbrev pub flushing_writer : Shard
flushing_writer = made (opened 0 1 []) (OpEvent first_tx first_birth 1 None (Put 5 (Num 7)) ∷ RequestEvent first_tx ((0, 0) ∷ []) ∷ FlushOut ∷ [])

abbrev pub flushed_writer : Shard
flushed_writer = reply_state flushing_writer (landed flushing_writer 3 true)

-- then its request is spent
abbrev pub OneShardIsSpent : Type 0
OneShardIsSpent = IsSpent flushed_writer first_tx (new_request ((0, 0) ∷ []) Undecided)

-- it writes on shard 1 as well: the home takes its yes, writes the COMMIT, has it durable, and takes the acknowledgement, so the END is written
abbrev pub flushing_home : Shard
flushing_home =
    made (opened 0 1 [])
    (OpEvent first_tx first_birth 1 None (Put 5 (Num 7)) ∷ RequestEvent first_tx ((0, 0) ∷ (1, 0) ∷ []) ∷ Deliver (VoteMessage 0 first_tx 1 Yes) 5 ∷ FlushOut ∷ [])

abbrev pub ended_home : Shard
ended_home = made (reply_state flushing_home (landed flushing_home 4 true)) (Deliver (Done 0 first_tx 1) 9 ∷ [])

abbrev pub ended_request : Request
ended_request = record { touched = (0, 0) ∷ (1, 0) ∷ []; votes = (1, Yes) ∷ []; state = Committed (1 ∷ []); acknowledged_by = 1 ∷ []; is_ended = true }

-- then its request is spent
abbrev pub AnEndedCommitIsSpent : Type 0
AnEndedCommitIsSpent = IsSpent ended_home first_tx ended_request

-- where the other shard votes no instead, the request is refused, and over; but a look is answered by its row
abbrev pub cause : AbortCause
cause = NoVote 1 (RestartedWhy 0 1)

abbrev pub refusing_home : Shard
refusing_home =
    made (opened 0 1 [])
    (OpEvent first_tx first_birth 1 None (Put 5 (Num 7)) ∷ RequestEvent first_tx ((0, 0) ∷ (1, 0) ∷ []) ∷ Deliver (VoteMessage 0 first_tx 1 (No (RestartedWhy 0 1))) 5 ∷ [])

abbrev pub refused_request : Request
refused_request = record { touched = (0, 0) ∷ (1, 0) ∷ []; votes = (1, No (RestartedWhy 0 1)) ∷ []; state = Refused cause; acknowledged_by = []; is_ended = false }

abbrev pub ALookTells : Type 0
ALookTells =
    IsOver refusing_home first_tx refused_request × (happen refusing_home (Look first_tx) ≡ Does (Aborted cause) refusing_home)
    × (happen (forgets first_tx refusing_home) (Look first_tx) ≡ QuietBeforeWorn NotYet)

-- it reads a key of shard 1, whose vote its home, shard 0, asks for
abbrev pub asking : Event
asking = Deliver (Prepare 1 first_tx 0 0) 3

abbrev pub voted_reader : Shard
voted_reader = made (opened 1 1 []) (OpEvent first_tx first_birth 1 None (Get 5) ∷ asking ∷ [])

-- then its part is past; but the same Prepare, delivered late, is taken and its vote given again, where without the rows it is stale
abbrev pub ALatePrepareTells : Type 0
ALatePrepareTells =
    IsPast voted_reader first_tx
    × ((made voted_reader (asking ∷ [])).outbox ≡ VoteMessage 0 first_tx 1 Read ∷ VoteMessage 0 first_tx 1 Read ∷ [])
    × (happen (forgets_part first_tx voted_reader) asking ≡ QuietBeforeWorn Stale)
