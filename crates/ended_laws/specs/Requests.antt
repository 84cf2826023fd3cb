-- A request that is over at its home, and the shard without its row.
use Rattle.std.specs.Prelude.{◌≡◌, ◌⊎◌, ⊤, ℕ, Bool, true, false, not, [], Some, None}
use Rattle.std.specs.List.{filter, list_all}
use Rattle.std.specs.List.Sorted.{IsStrictlySortedBy}
use Rattle.std.specs.Map.{keys_of}
use Rattle.clv_base.specs.declared.names.TxId.{TxId}
use Rattle.clv_base.specs.declared.events.Event.{Event}
use Rattle.clv_base.specs.declared.events.Event.TheVariants.{Op as OpEvent, RollTo, Request as RequestEvent, Look}
use Rattle.clv_base.specs.declared.events.Outcome.{Outcome}
use Rattle.clv_base.specs.Orders.{Table, tx_cmp, tx_same, tx_get, nat_in}
use Rattle.clv_base.specs.Logs.{committed_in}
use Rattle.clv_base.specs.declared.state.Request.{Request}
use Rattle.clv_base.specs.declared.state.RequestState.{RequestState}
use Rattle.clv_base.specs.declared.state.RequestState.TheVariants.{Undecided, Committed, Finished, Refused}
use Rattle.clv_base.specs.declared.state.Stage.TheVariants.{Gone}
use Rattle.clv_base.specs.State.{Shard, is_present}
use Rattle.clv_base.specs.Undo.{stage_of}
use Rattle.clv_base.specs.Facts.{doom_by}
use Rattle.clv_base.specs.Coordinator.{others, end_ruling}
use Rattle.clv_base.specs.Events.{Reply, QuietBeforeWorn, QuietAfterWorn, Does, happen, landed}

-- the rows of all other transactions
abbrev pub without : {X : Type 0} → TxId → Table X → Table X
without tx rows = filter (λ r. not (tx_same tx r.0)) rows

-- the shard that keeps nothing of the transaction's request
abbrev pub forgets : TxId → Shard → Shard
forgets tx s = record s { requests = without tx s.requests }

-- what an event comes to there
abbrev pub forgetful : TxId → Reply → Reply
forgetful tx (QuietBeforeWorn o) = QuietBeforeWorn o
forgetful tx (QuietAfterWorn o) = QuietAfterWorn o
forgetful tx (Does o t) = Does o (forgets tx t)

-- nothing more is to be done of a request, by its ruling: of one shard alone, its COMMIT is in the log; of a commit with parts, each acknowledged
-- it and its END is written; nobody asked for more than a look where it only read or was refused
abbrev pub IsDone : Shard → TxId → Request → RequestState → Type 0
IsDone s tx q Undecided =
    (others s.shard q.touched ≡ []) × (q.votes ≡ []) × (committed_in s.local.log tx ≡ true) × (doom_by (stage_of s.local tx) ≡ None)
IsDone s tx q (Committed parts) =
    (committed_in s.local.log tx ≡ true) × (list_all (λ p. nat_in p q.acknowledged_by) parts ≡ true) × (end_ruling q parts ≡ None)
IsDone s tx q Finished = ⊤
IsDone s tx q (Refused cause) = ⊤

-- the request is kept, is done, and its part at the home is not there any more; the requests rise, as they do in every table
pub record IsOver (s : Shard) (tx : TxId) (q : Request) : Type 0 where
  pub rises : IsStrictlySortedBy tx_cmp (keys_of s.requests)
  pub kept : tx_get tx s.requests ≡ Some q
  pub is_gone : is_present (stage_of s.local tx) ≡ false
  pub is_done : IsDone s tx q q.state

-- a look is answered by the row alone where it only read or was refused
abbrev pub is_by_log : RequestState → Bool
is_by_log Undecided = true
is_by_log (Committed parts) = true
is_by_log Finished = false
is_by_log (Refused cause) = false

-- what no session makes any more once it was told, or goes by the log
abbrev pub MayCome : TxId → Request → Event → Type 0
MayCome tx q (OpEvent t birth nth seen op) = tx_same tx t ≡ false
MayCome tx q (RollTo t nth seen upto) = tx_same tx t ≡ false
MayCome tx q (RequestEvent t touched) = tx_same tx t ≡ false
MayCome tx q (Look t) = (tx_same tx t ≡ false) ⊎ (is_by_log q.state ≡ true)
MayCome tx q _ = ⊤

-- each event that may come then finds the same without the row: the same answer, and the same state but for the row
abbrev pub NobodyMissesIt : Type 0
NobodyMissesIt =
    (s : Shard) (tx : TxId) (q : Request) (e : Event) → IsOver s tx q → MayCome tx q e → happen (forgets tx s) e ≡ forgetful tx (happen s e)

-- and leaves the request over
abbrev pub OverStaysOver : Type 0
OverStaysOver =
    (s t : Shard) (tx : TxId) (q : Request) (e : Event) (o : Outcome) → IsOver s tx q → MayCome tx q e → happen s e ≡ Does o t → IsOver t tx q

-- ---- whatever comes

-- it is over, its part here is finished, and the log answers a look at it
pub record IsSpent (s : Shard) (tx : TxId) (q : Request) : Type 0 where
  pub over : IsOver s tx q
  pub finished : stage_of s.local tx ≡ Some (Gone None)
  pub by_log : is_by_log q.state ≡ true

-- then each event finds the same without the row, one that no session makes too
abbrev pub NothingMissesIt : Type 0
NothingMissesIt = (s : Shard) (tx : TxId) (q : Request) (e : Event) → IsSpent s tx q → happen (forgets tx s) e ≡ forgetful tx (happen s e)

-- and leaves it so; and so does the end of a flush
abbrev pub SpentStaysSpent : Type 0
SpentStaysSpent = (s t : Shard) (tx : TxId) (q : Request) (e : Event) (o : Outcome) → IsSpent s tx q → happen s e ≡ Does o t → IsSpent t tx q

abbrev pub FlushesMissNothing : Type 0
FlushesMissNothing =
    (s : Shard) (tx : TxId) (q : Request) (n : ℕ) (pushed : Bool) → IsSpent s tx q
    → (landed (forgets tx s) n pushed ≡ forgetful tx (landed s n pushed)) × ((o : Outcome) (t : Shard) → landed s n pushed ≡ Does o t → IsSpent t tx q)

-- forgetting another one leaves it so
abbrev pub SpentGoAlone : Type 0
SpentGoAlone = (s : Shard) (tx u : TxId) (q : Request) → tx_same tx u ≡ false → IsSpent s u q → IsSpent (forgets tx s) u q
