-- COMMITs go downwards.
use Rattle.std.specs.Prelude.{◌≡◌, ℕ, ◌<◌, true, List, ◌++◌}
use Rattle.clv_base.specs.declared.names.TxId.{TxId}
use Rattle.clv_base.specs.declared.logs.LogRecord.{LogRecord}
use Rattle.clv_base.specs.Orders.{tx_in}
use Rattle.clv_base.specs.Shards.{shard_count}
use Rattle.clv_base.specs.Logs.{committed_in}
use Rattle.clv_base.specs.Facts.{predecessors_of}
use Rattle.clv_base.specs.Journals.{History}
use Rattle.clv_base.specs.History.{state_before}
use Rattle.history_laws.specs.Openings.{LegalFrom}

-- at each moment, where a transaction has a COMMIT in a shard's log, each of its predecessors there has one
abbrev pub CommitsGoDownwards : Type 0
CommitsGoDownwards =
    (splits : List ℕ) (before : List (List LogRecord)) (so_far later : History) (after : List (List LogRecord)) (n : ℕ) (tx p : TxId)
    → LegalFrom splits before (so_far ++ later) after → n < shard_count splits
    → committed_in (state_before before so_far after n).local.log tx ≡ true → tx_in p (predecessors_of (state_before before so_far after n).local.pairs tx) ≡ true
    → committed_in (state_before before so_far after n).local.log p ≡ true
