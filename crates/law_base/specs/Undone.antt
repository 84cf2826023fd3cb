-- What the CLRs and UNADDs of an abort leave of a log.
use Rattle.std.specs.Prelude.{◌≡◌, Bool, not, List, ◌++◌}
use Rattle.std.specs.List.{filter}
use Rattle.clv_base.specs.declared.names.TxId.{TxId}
use Rattle.clv_base.specs.declared.logs.LogRecord.{LogRecord}
use Rattle.clv_base.specs.Orders.{tx_in}
use Rattle.clv_base.specs.Logs.{StandingUpdate, standing}
use Rattle.clv_base.specs.Undo.{aborts_of, clrs_of}

-- whether a write stays, by what is taken back
abbrev pub stays_by : (StandingUpdate → Bool) → StandingUpdate → Bool
stays_by gone w = not (gone w)

-- whether a write is of none of the set
abbrev pub stays_of : List TxId → StandingUpdate → Bool
stays_of set w = not (tx_in w.tx set)

-- after the ABORTs, CLRs and UNADDs of a set exactly the others' writes stand, in the same order
abbrev pub UndoLeavesTheOthers : Type 0
UndoLeavesTheOthers =
    (set : List TxId) (log : List LogRecord) → standing (log ++ aborts_of log set ++ clrs_of set (standing log)) ≡ filter (stays_of set) (standing log)
