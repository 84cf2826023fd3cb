-- What a shard did, by its own entries of the history.
use Rattle.std.specs.Prelude.{◌≡◌, ℕ, true, ◌==◌, List, map}
use Rattle.std.specs.List.{filter}
use Rattle.clv_base.specs.declared.names.TxId.{TxId}
use Rattle.clv_base.specs.declared.logs.LogRecord.{LogRecord}
use Rattle.clv_base.specs.Orders.{tx_in}
use Rattle.clv_base.specs.LogRules.{log_of}
use Rattle.clv_base.specs.Journals.{History, journal_of, start_of, predecessors_in}
use Rattle.clv_base.specs.History.{acknowledged_in}
use Rattle.history_laws.specs.Telling.{told_in, told_by}
use Rattle.shard_laws.specs.OneShard.{deeds_of, has_met}
use Rattle.fate_laws.specs.Leading.{deeds_before}

abbrev pub own_entries : ℕ → History → History
own_entries n h = filter (λ e. e.0 == n) h

-- of each transaction it has the operations with the answers that they tell, and its goings back, in their order; that they tell it of success; and
-- those whose writes its operations violated
abbrev pub DeedsAreTold : Type 0
DeedsAreTold =
    (before : List (List LogRecord)) (so_far : History) (after : List (List LogRecord)) (n : ℕ) (t : TxId)
    → (map told_by (deeds_of t (deeds_before before so_far after n).done) ≡ told_in t (own_entries n so_far))
    × (tx_in t (deeds_before before so_far after n).told ≡ acknowledged_in (own_entries n so_far) t)
    × ((p : TxId) → tx_in p (predecessors_in (log_of after n) (start_of before n) t (journal_of n so_far)) ≡ true → has_met (deeds_before before so_far after n).met t p ≡ true)
