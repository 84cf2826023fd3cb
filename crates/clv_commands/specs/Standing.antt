-- What `standby` shows, by its status.
use Rattle.std.specs.Prelude.{◌≡◌, ℕ, suc, slice_get, List, ◌∷◌, [], ◌++◌, take, codes, Option, Some, None}
use Rattle.clv_base.specs.declared.logs.LogRecord.{LogRecord}
use Rattle.clv_base.specs.LogRules.{apart}
use Rattle.clv_base.specs.Maps.{KeyMap}
use Rattle.io_model.specs.Sides.{Stories}
use Rattle.io_model.specs.Streams.{Grows}
use Rattle.cluster_opening.specs.Logs.{LogsOfAll}
use Rattle.report_text.specs.Report.{pairs_text}
use Rattle.standby_base.specs.Standby.{shown}
use Rattle.command_line.specs.declared.commands.Command.{Command}
use Rattle.command_line.specs.declared.commands.Command.TheVariants.{Standby}
use Rattle.command_line.specs.declared.status.Status.{Status}
use Rattle.command_line.specs.declared.status.Status.TheVariants.{Fine, WriteFault}

-- so many of the first records of a shard's log, and all where no number stands
abbrev pub kept_of : Option ℕ → List LogRecord → List LogRecord
kept_of None log = log
kept_of (Some n) log = take n log

-- shard by shard, from n up
abbrev pub firsts_from : ℕ → List ℕ → List (List LogRecord) → List (List LogRecord)
firsts_from n counts [] = []
firsts_from n counts (log ∷ logs) = kept_of (slice_get counts n) log ∷ firsts_from (suc n) counts logs

abbrev pub firsts : List ℕ → List (List LogRecord) → List (List LogRecord)
firsts counts logs = firsts_from 0 counts logs

-- the pairs that are shown, or that nothing is yet
abbrev pub standby_text : Option KeyMap → List ℕ
standby_text None = codes "not yet" ++ 10 ∷ []
standby_text (Some pairs) = pairs_text pairs

-- this is the text of what a standby shows that was fed so many records of logs that the disks hold and that agree
pub record IsTextOf (counts : List ℕ) (stories : ℕ → Option Stories) (text : List ℕ) : Type 0 where
  pub splits : List ℕ
  pub logs : List (List LogRecord)
  pub held : LogsOfAll splits logs stories
  pub agree : apart logs ≡ None
  pub is : text ≡ standby_text (shown (firsts counts logs))

-- the sink took it; a front of it where the sink failed; else nothing
abbrev pub IsShown : List ℕ → (ℕ → Option Stories) → Option (List ℕ) → Option (List ℕ) → Status → Type 0
IsShown counts stories old new Fine = (text : List ℕ) × IsTextOf counts stories text × Grows old new text
IsShown counts stories old new WriteFault = (text : List ℕ) × IsTextOf counts stories text × ((n : ℕ) × Grows old new (take n text))
IsShown counts stories old new status = new ≡ old

abbrev pub ShownBy : Command → (ℕ → Option Stories) → Option (List ℕ) → Option (List ℕ) → Status → Type 0
ShownBy (Standby counts) stories old new status = IsShown counts stories old new status
ShownBy command stories old new status = Unit {0}
