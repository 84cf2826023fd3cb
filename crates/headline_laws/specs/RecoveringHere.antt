-- Whose writes a member violated on some shard.
use Rattle.std.specs.Prelude.{◌≡◌, ◌⊎◌, ℕ, ◌<◌, Bool, true, List}
use Rattle.clv_base.specs.declared.names.TxId.{TxId}
use Rattle.clv_base.specs.declared.logs.LogRecord.{LogRecord}
use Rattle.clv_base.specs.Orders.{tx_in}
use Rattle.clv_base.specs.Logs.{in_doubt, committed_somewhere}
use Rattle.clv_base.specs.LogRules.{log_of}
use Rattle.clv_base.specs.Shards.{shard_count}
use Rattle.clv_base.specs.Journals.{History}
use Rattle.history_laws.specs.Openings.{LegalFrom}
use Rattle.history_laws.specs.Continuing.{serial_left}
use Rattle.history_laws.specs.Places.{transactions_of, StandsBefore, predecessors_on}
use Rattle.fate_laws.specs.Members.{is_member}
use Rattle.headline_laws.specs.ReplayingHere.{IsHere}

-- each predecessor that a member got on a shard where it is here is a member too, at an earlier place, or it was in doubt there
-- in the log found, and some log found has its COMMIT
abbrev pub PredecessorsStandBeforeWhereHere : Type 0
PredecessorsStandBeforeWhereHere =
    (splits : List ℕ) (before : List (List LogRecord)) (h : History) (after : List (List LogRecord)) (choice : ℕ → Bool) (n : ℕ) (t p : TxId)
    → LegalFrom splits before h after
    → n < shard_count splits → is_member splits before h after choice t ≡ true → IsHere splits before h after choice n t
    → tx_in p (predecessors_on before h after n t) ≡ true
    → StandsBefore p t (transactions_of (serial_left splits before h after choice)) ⊎ ((tx_in p (in_doubt n (log_of before n)) ≡ true) × (committed_somewhere before p ≡ true))
