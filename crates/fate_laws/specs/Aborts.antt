-- Who is aborted is committed nowhere.
use Rattle.std.specs.Prelude.{◌≡◌, ℕ, ◌<◌, Bool, true, false, List, ◌++◌, Some}
use Rattle.clv_base.specs.declared.names.TxId.{TxId}
use Rattle.clv_base.specs.declared.logs.LogRecord.{LogRecord}
use Rattle.clv_base.specs.declared.state.Stage.TheVariants.{Gone}
use Rattle.clv_base.specs.Undo.{stage_of}
use Rattle.clv_base.specs.Shards.{shard_count}
use Rattle.clv_base.specs.Logs.{committed_in}
use Rattle.clv_base.specs.Journals.{History}
use Rattle.clv_base.specs.History.{state_before}
use Rattle.history_laws.specs.Openings.{LegalFrom}
use Rattle.history_laws.specs.Outcomes.{aborted_in_history}
use Rattle.fate_laws.specs.Decisions.{is_left}

-- at each moment, whose part on a shard was taken away by an abort has no COMMIT there
abbrev pub DoomedAreUncommitted : Type 0
DoomedAreUncommitted =
    (splits : List ℕ) (before : List (List LogRecord)) (so_far later : History) (after : List (List LogRecord)) (n : ℕ) (tx doom : TxId)
    → LegalFrom splits before (so_far ++ later) after → n < shard_count splits
    → stage_of (state_before before so_far after n).local tx ≡ Some (Gone (Some doom)) → committed_in (state_before before so_far after n).local.log tx ≡ false

-- where a transaction is told of an abort, no shard has a COMMIT of it then or ever after
abbrev pub AbortedAreCommittedNowhere : Type 0
AbortedAreCommittedNowhere =
    (splits : List ℕ) (before : List (List LogRecord)) (h : History) (after : List (List LogRecord)) (choice : ℕ → Bool) (n : ℕ) (tx : TxId)
    → LegalFrom splits before h after → n < shard_count splits
    → aborted_in_history h tx ≡ true → is_left splits before h after choice n tx ≡ false
