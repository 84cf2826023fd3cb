-- Whom each thing that is done, and each event, may make a candidate.
use Rattle.std.specs.Prelude.{ℕ, Bool, true, false, List, [], ◌∷◌}
use Rattle.clv_base.specs.declared.names.TxId.{TxId}
use Rattle.clv_base.specs.declared.names.Birth.{Birth}
use Rattle.clv_base.specs.declared.ops.Op.{Op}
use Rattle.clv_base.specs.declared.causes.Vote.{Vote}
use Rattle.clv_base.specs.declared.messages.Message.{Message}
use Rattle.clv_base.specs.declared.state.Voter.{Voter}
use Rattle.clv_base.specs.declared.state.Request.{Request}
use Rattle.clv_base.specs.declared.state.Ruling.{Ruling}
use Rattle.clv_base.specs.declared.state.Ruling.TheVariants.{Commit as CommitVerdict, Acknowledge, Abort as AbortVerdict, End as EndVerdict}
use Rattle.clv_base.specs.State.{Shard, Local, with_local}
use Rattle.clv_base.specs.Undo.{roll_to, doomed_here}
use Rattle.clv_base.specs.OneShard.{performed, without_part, drop_part, close_part}
use Rattle.clv_base.specs.Due.{send, with_commit_done, with_vote, finish_reader, with_ruling, do_ruling}
use Rattle.clv_base.specs.Events.{coordinate, owe_vote, with_votes, decided, with_done, with_outbox, with_flight}
use Rattle.protocol_laws.specs.Changes.{ChangesDue, successors_of}

-- ---- what is due

-- a COMMIT that became durable: its own transaction
abbrev pub CommitsTouch : Type 0
CommitsTouch = (s : Shard) (tx : TxId) → ChangesDue (tx ∷ []) s (with_commit_done s tx)

-- a vote: its own
abbrev pub VotesTouch : Type 0
VotesTouch = (s : Shard) (tx : TxId) (v : Voter) (vote : Vote) → ChangesDue (tx ∷ []) s (finish_reader tx vote (with_vote s tx v vote))

-- a ruling: a COMMIT decides its successors besides, and an abort dooms those that it takes away
abbrev pub ruled_touch : Local → TxId → Ruling → List TxId
ruled_touch l tx (CommitVerdict parts) = tx ∷ successors_of l.pairs tx
ruled_touch l tx Acknowledge = tx ∷ []
ruled_touch l tx (AbortVerdict cause to) = tx ∷ doomed_here l tx
ruled_touch l tx EndVerdict = tx ∷ []

abbrev pub RulingsTouch : Type 0
RulingsTouch = (s : Shard) (tx : TxId) (q : Request) (r : Ruling) → ChangesDue (ruled_touch s.local tx r) s (do_ruling tx r (with_ruling tx q r s))

-- ---- events, before what is due is done

-- a granted operation: its own transaction; a death: those that it takes away
abbrev pub OperationsTouch : Type 0
OperationsTouch =
    ((s : Shard) (tx : TxId) (birth : Birth) (op : Op) → ChangesDue (tx ∷ []) s (record s { local = performed tx birth op s.local }))
    × ((s : Shard) (tx : TxId) → ChangesDue (doomed_here s.local tx) s (record s { local = without_part tx s.local }))

-- a going back: its own transaction
abbrev pub RollsTouch : Type 0
RollsTouch = (s : Shard) (tx : TxId) (n : ℕ) → ChangesDue (tx ∷ []) s (with_local (roll_to tx n) s)

-- a request, which closes the part where that is active: its own, and its successors where it commits at once
abbrev pub RequestsTouch : Type 0
RequestsTouch =
    ((s : Shard) (tx : TxId) (touched : List (ℕ × ℕ)) (alone : Bool) → ChangesDue (tx ∷ successors_of s.local.pairs tx) s (coordinate tx touched (with_local (close_part tx s.shard alone) s)))
    × ((s : Shard) (tx : TxId) (touched : List (ℕ × ℕ)) → ChangesDue (tx ∷ []) s (coordinate tx touched s))

-- a drop: those that it takes away
abbrev pub DropsTouch : Type 0
DropsTouch = (s : Shard) (tx : TxId) → ChangesDue (doomed_here s.local tx) s (with_local (drop_part tx) s)

-- a Prepare, which closes the part where that is active: its own, and its successors
abbrev pub PreparesTouch : Type 0
PreparesTouch =
    ((s : Shard) (tx : TxId) (home seen : ℕ) → ChangesDue (tx ∷ successors_of s.local.pairs tx) s (owe_vote tx home seen (with_local (close_part tx home false) s)))
    × ((s : Shard) (tx : TxId) (home seen : ℕ) → ChangesDue (tx ∷ []) s (owe_vote tx home seen s))

-- a vote or an acknowledgement that comes: its own
abbrev pub AnswersTouch : Type 0
AnswersTouch =
    ((s : Shard) (tx : TxId) (from : ℕ) (vote : Vote) (q : Request) → ChangesDue (tx ∷ []) s (with_votes tx from vote q s))
    × ((s : Shard) (tx : TxId) (from : ℕ) (q : Request) → ChangesDue (tx ∷ []) s (with_done tx from q s))

-- a decision that is awaited: a commit its own and its successors, an abort those that it takes away
abbrev pub DecisionsTouch : Type 0
DecisionsTouch =
    ((s : Shard) (tx : TxId) → ChangesDue (tx ∷ successors_of s.local.pairs tx) s (decided s tx true))
    × ((s : Shard) (tx : TxId) → ChangesDue (doomed_here s.local tx) s (decided s tx false))

-- messages that are put out or taken out, and the start of a flush: nobody
abbrev pub NobodyIsTouched : Type 0
NobodyIsTouched =
    ((s : Shard) (ms : List Message) → ChangesDue [] s (send ms s)) × ((s : Shard) (ms : List Message) → ChangesDue [] s (with_outbox ms s))
    × ((s : Shard) (n : ℕ) → ChangesDue [] s (with_flight n s))
