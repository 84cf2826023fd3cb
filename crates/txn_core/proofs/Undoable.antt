-- When what an abort takes along can be taken away.
use Rattle.std.specs.Prelude.{◌≡◌, ◌+◌, ◌≤◌, length}
use Rattle.clv_base.specs.declared.names.TxId.{TxId}
use Rattle.clv_base.specs.Logs.{standing}
use Rattle.clv_base.specs.Undo.{doomed_by, doomed_here, aborts_of}
use Rattle.cascade_undo.specs.Writes.{writes_of, HaveRecords}
use Rattle.txn_core.specs.State.{TxState}

-- each of the doomed has its part here, each of their writes that stand its record, and the log has room for their ABORTs, CLRs and UNADDs
pub record IsUndoable (s : TxState) (tx : TxId) : Type 0 where
  pub parts : doomed_here s.local tx ≡ doomed_by s.local tx
  pub records : HaveRecords (doomed_by s.local tx) (standing (s.local).log) (s.local).records
  pub room : length (aborts_of (s.local).log (doomed_by s.local tx)) + length (writes_of (doomed_by s.local tx) (standing (s.local).log)) ≤ s.room
