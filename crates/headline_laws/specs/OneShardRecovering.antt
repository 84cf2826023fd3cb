-- Whose writes a member violated.
use Rattle.std.specs.Prelude.{◌≡◌, ℕ, Bool, true, List, [], ◌∷◌}
use Rattle.clv_base.specs.declared.names.TxId.{TxId}
use Rattle.clv_base.specs.declared.logs.LogRecord.{LogRecord}
use Rattle.clv_base.specs.Orders.{tx_in}
use Rattle.clv_base.specs.Journals.{History}
use Rattle.history_laws.specs.Openings.{LegalFrom}
use Rattle.history_laws.specs.Continuing.{serial_left}
use Rattle.history_laws.specs.Places.{transactions_of, StandsBefore, predecessors_on}

-- each predecessor of a member is a member too, at an earlier place
abbrev pub PredecessorsStandBefore : Type 0
PredecessorsStandBefore =
    (before : List LogRecord) (h : History) (after : List (List LogRecord)) (choice : ℕ → Bool) (t p : TxId)
    → LegalFrom [] (before ∷ []) h after
    → tx_in t (transactions_of (serial_left [] (before ∷ []) h after choice)) ≡ true → tx_in p (predecessors_on (before ∷ []) h after 0 t) ≡ true
    → StandsBefore p t (transactions_of (serial_left [] (before ∷ []) h after choice))
