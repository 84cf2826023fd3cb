-- What an END says of the parts of its transaction.
use Rattle.std.specs.Prelude.{◌≡◌, ℕ, ◌<◌, Bool, true, List, Some}
use Rattle.clv_base.specs.declared.names.TxId.{TxId}
use Rattle.clv_base.specs.declared.logs.LogRecord.{LogRecord}
use Rattle.clv_base.specs.Orders.{nat_in}
use Rattle.clv_base.specs.Shards.{shard_count}
use Rattle.clv_base.specs.Logs.{ended_in, commit_parts}
use Rattle.clv_base.specs.LogRules.{log_of}
use Rattle.clv_base.specs.Journals.{History}
use Rattle.clv_base.specs.History.{logs_left}
use Rattle.history_laws.specs.Openings.{LegalFrom}
use Rattle.fate_laws.specs.Decisions.{is_left}

-- where a crash leaves an END of a transaction on a shard, each part that its COMMIT there names has a COMMIT of it left, whatever a crash
-- keeps of what is in flight
abbrev pub EndedAreCommitted : Type 0
EndedAreCommitted =
    (splits : List ℕ) (before : List (List LogRecord)) (h : History) (after : List (List LogRecord)) (choice : ℕ → Bool) (n m : ℕ) (tx : TxId) (parts : List ℕ)
    → LegalFrom splits before h after → n < shard_count splits
    → ended_in (log_of (logs_left splits before h after choice) n) tx ≡ true → commit_parts (log_of (logs_left splits before h after choice) n) tx ≡ Some parts
    → nat_in m parts ≡ true → is_left splits before h after choice m tx ≡ true
