-- Which places members and their predecessors have.
use Rattle.std.specs.Prelude.{◌≡◌, ◌⊎◌, ℕ, true, List, [], ◌∷◌, map}
use Rattle.clv_base.specs.declared.names.TxId.{TxId}
use Rattle.clv_base.specs.declared.logs.LogRecord.{LogRecord}
use Rattle.clv_base.specs.Orders.{tx_in}
use Rattle.clv_base.specs.LogRules.{log_of}
use Rattle.clv_base.specs.Journals.{History, journal_of, start_of, predecessors_in}
use Rattle.clv_base.specs.History.{Member}

-- the members' transactions, in order
abbrev pub transactions_of : List Member → List TxId
transactions_of ms = map (λ m. m.tx) ms

-- the first stands in the list, and the second behind it
abbrev pub StandsBefore : TxId → TxId → List TxId → Type 0
StandsBefore p t [] = ⊥
StandsBefore p t (x ∷ xs) = ((x ≡ p) × (tx_in t xs ≡ true)) ⊎ StandsBefore p t xs

-- the predecessors that a transaction got on a shard: those whose writes its operations violated there
abbrev pub predecessors_on : List (List LogRecord) → History → List (List LogRecord) → ℕ → TxId → List TxId
predecessors_on before h after n t = predecessors_in (log_of after n) (start_of before n) t (journal_of n h)
