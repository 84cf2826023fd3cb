-- What can make something due for a transaction: a change of its facts, or of what is kept of it as a voter or as a request.
use Rattle.std.specs.Prelude.{◌≡◌, ℕ, ◌≤◌, ◌-◌, Bool, false, List, [], ◌∷◌, ◌++◌, Option, map, take, drop}
use Rattle.std.specs.List.{filter}
use Rattle.clv_base.specs.declared.names.TxId.{TxId}
use Rattle.clv_base.specs.declared.names.Birth.{Birth}
use Rattle.clv_base.specs.declared.ops.Op.{Op}
use Rattle.clv_base.specs.declared.logs.LogRecord.{LogRecord}
use Rattle.clv_base.specs.declared.logs.LogRecord.TheVariants.{Clr, Prepare, Commit, End, Unadd}
use Rattle.clv_base.specs.Orders.{tx_same, tx_in, tx_get}
use Rattle.clv_base.specs.State.{Shard, Local}
use Rattle.clv_base.specs.Facts.{facts_in, facts_of}
use Rattle.clv_base.specs.Undo.{release_parts, roll_back, roll_to, doomed_here}
use Rattle.clv_base.specs.OneShard.{performed, close_part, mark_dropped, purge}
use Rattle.clv_base.specs.Due.{append_log}
use Rattle.clv_base.specs.Events.{with_durable}
use Rattle.protocol_laws.specs.Candidates.{Cover}

-- outside of these transactions the facts stay, whatever is durable
abbrev pub ChangesOnly : List TxId → Local → Local → Type 0
ChangesOnly set l m = (x : TxId) → tx_in x set ≡ false → (durable : ℕ) → facts_in m durable x ≡ facts_in l durable x

-- outside of these transactions all stays that something due depends on
pub record ChangesDue (set : List TxId) (s t : Shard) : Type 0 where
  pub shard : t.shard ≡ s.shard
  pub facts : (x : TxId) → tx_in x set ≡ false → facts_of t x ≡ facts_of s x
  pub voters : (x : TxId) → tx_in x set ≡ false → tx_get x t.voters ≡ tx_get x s.voters
  pub requests : (x : TxId) → tx_in x set ≡ false → tx_get x t.requests ≡ tx_get x s.requests

-- after such a change those transactions are candidates besides
abbrev pub CoverGrows : Type 0
CoverGrows = (set txs : List TxId) (s t : Shard) → ChangesDue set s t → Cover txs s → Cover (set ++ txs) t

-- who is a successor of the transaction
abbrev pub successors_of : List (TxId × TxId) → TxId → List TxId
successors_of pairs tx = map (λ p. p.0) (filter (λ p. tx_same tx p.1) pairs)

-- ---- which transactions each change may make something due for

-- parts that go: their own
abbrev pub ReleasesChange : Type 0
ReleasesChange = (l : Local) (set : List TxId) (doom : Option TxId) → ChangesOnly set l (release_parts set doom l)

-- an abort: those that it takes away
abbrev pub RollBacksChange : Type 0
RollBacksChange = (l : Local) (tx : TxId) → ChangesOnly (doomed_here l tx) l (roll_back tx l)

-- a COMMIT: its own transaction, and the successors that it decides
abbrev pub CommitsChange : Type 0
CommitsChange = (l : Local) (tx : TxId) (parts : List ℕ) → ChangesOnly (tx ∷ successors_of l.pairs tx) l (append_log (Commit tx parts ∷ []) l)

-- an END: nobody's
abbrev pub EndsChange : Type 0
EndsChange = (l : Local) (tx : TxId) → ChangesOnly [] l (append_log (End tx ∷ []) l)

-- a part that closes: its own, and where it commits at once its successors
abbrev pub ClosesChange : Type 0
ClosesChange = (l : Local) (tx : TxId) (home : ℕ) (one_shard : Bool) → ChangesOnly (tx ∷ successors_of l.pairs tx) l (close_part tx home one_shard l)

-- a granted operation: its own
abbrev pub OperationsChange : Type 0
OperationsChange = (l : Local) (tx : TxId) (birth : Birth) (op : Op) → ChangesOnly (tx ∷ []) l (performed tx birth op l)

-- a going back: its own
abbrev pub RollsChange : Type 0
RollsChange = (l : Local) (tx : TxId) (n : ℕ) → ChangesOnly (tx ∷ []) l (roll_to tx n l)

-- the mark of a drop, and ghosts that go: nobody's
abbrev pub MarksChange : Type 0
MarksChange = (l : Local) (tx : TxId) → ChangesOnly [] l (mark_dropped tx l)

abbrev pub PurgesChange : Type 0
PurgesChange = (l : Local) → ChangesOnly [] l (purge l)

-- ---- a flush that ends

-- those whose COMMIT, PREPARE, CLR or UNADD became durable, and the successors of those with a COMMIT
abbrev pub landed_txs : List (TxId × TxId) → List LogRecord → List TxId
landed_txs pairs [] = []
landed_txs pairs (Commit tx parts ∷ rs) = tx ∷ successors_of pairs tx ++ landed_txs pairs rs
landed_txs pairs (Prepare tx home predecessors ∷ rs) = tx ∷ landed_txs pairs rs
landed_txs pairs (Clr tx undo_next key after ∷ rs) = tx ∷ landed_txs pairs rs
landed_txs pairs (Unadd tx undo_next key by ∷ rs) = tx ∷ landed_txs pairs rs
landed_txs pairs (_ ∷ rs) = landed_txs pairs rs

abbrev pub landed_records : List LogRecord → ℕ → ℕ → List LogRecord
landed_records log from upto = take (upto - from) (drop from log)

abbrev pub FlushesCover : Type 0
FlushesCover =
    (s : Shard) (n : ℕ) (txs : List TxId) → s.durable ≤ n → Cover txs s → Cover (landed_txs s.local.pairs (landed_records s.local.log s.durable n) ++ txs) (with_durable n s)
