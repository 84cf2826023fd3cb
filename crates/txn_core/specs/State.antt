-- What the transactions of a shard are seen as: the shard, the state that they work on, the fronts of its log, and room.
use Rattle.std.specs.Prelude.{◌≡◌, ◌≤◌, ℕ, List, length, Option, Some, None}
use Rattle.clv_base.specs.declared.names.TxId.{TxId}
use Rattle.clv_base.specs.declared.logs.LogRecord.{LogRecord}
use Rattle.clv_base.specs.declared.state.Held.{Held}
use Rattle.clv_base.specs.declared.state.Stage.{Stage}
use Rattle.clv_base.specs.Orders.{Table, tx_get}
use Rattle.clv_base.specs.Logs.{commit_lsn}
use Rattle.clv_base.specs.State.{Local}

pub record TxState : Type 0 where
  pub shard : ℕ
  pub local : Local
  -- how many records of the log are durable, and how many were taken for a batch
  pub durable : ℕ
  pub taken : ℕ
  -- for how many records more room is reserved in the log
  pub room : ℕ
  -- for how many settled transactions more room is reserved in the dependencies
  pub pairs_room : ℕ

-- the fronts of the log stand in their order
pub record AreInOrder (s : TxState) : Type 0 where
  pub durable_first : s.durable ≤ s.taken
  pub end_last : s.taken ≤ length (s.local).log

-- another state to work on; the fronts and the shard stay, and of room this doesn't tell
abbrev pub IsSameBut : TxState → Local → TxState → Type 0
IsSameBut s l t = t ≡ record s { local = l; room = t.room; pairs_room = t.pairs_room }

-- the transactions with a COMMIT in the log are known to be settled, each at its COMMIT's place, and no other
abbrev pub AreSettled : Table ℕ → List LogRecord → Type 0
AreSettled commits log = (t : TxId) → tx_get t commits ≡ commit_lsn log t

-- how far a part is, if it is known
abbrev pub stage_by : Option Held → Option Stage
stage_by part = elim part [ Some h ↦ Some h.stage | None ↦ None ]
