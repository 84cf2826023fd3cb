-- How live sessions end, by what became of disks, input and output.
use Rattle.std.proofs.Common.{◌≡◌, sym, subst, ℕ, ◌<◌, ◌≤◌, List, Option, Some, Result, Ok, Err}
use Rattle.io_model.specs.Disk.{Rose}
use Rattle.io_model.specs.Sides.{Stories}
use Rattle.io_model.specs.Streams.{CountsReading}
use Rattle.io_model.specs.declared.whole.ReadError.{ReadError}
use Rattle.io_model.specs.declared.whole.ReadError.TheVariants as reading
use Rattle.clv_base.specs.Shards.{shard_count}
use Rattle.cluster_runs.specs.Statuses.{DisksTold}
use Rattle.live_runs.specs.Lived.{ServedAll}
use Rattle.history_replay.specs.Entries.{Kept}
use Rattle.report_text.specs.Sinks.{Causes}
use Rattle.report_text.specs.declared.texts.ReportError.{ReportError}
use Rattle.report_text.specs.declared.texts.ReportError.TheVariants as text
use Rattle.command_line.specs.Running.{with_text}
use Rattle.command_line.specs.declared.status.Status.{Status}
use Rattle.command_line.specs.declared.status.Status.TheVariants.{Fine, Usage, Script, ReadFault, WriteFault, DiskFault, NotLog, Memory, Worn, Exists, Apart, WrongTransaction, WrongMap, Unsettled}
use Rattle.clv_commands.specs.Kinds.{IsOfServe}
use Rattle.clv_commands.specs.Causes.{BreaksLogs, CountsServedSource, CountsServedSink, CountsDisks, Stand}
use Rattle.clv_commands.specs.Statuses.{with_input}
use Rattle.clv_commands.proofs.Endings.{stand}

-- by disks and input, before the output is looked at
abbrev InputTold : (ℕ → ℕ) → (ℕ → ℕ) → ℕ → ℕ → Status → Type 0
InputTold counts counts_now before now Fine = Stand counts counts_now × (now ≡ before)
InputTold counts counts_now before now ReadFault = Stand counts counts_now × Rose before now
InputTold counts counts_now before now (DiskFault shard) = Rose (counts shard) (counts_now shard) × ((n : ℕ) → n < shard → counts_now n ≡ counts n)
InputTold counts counts_now before now (Worn at) = Stand counts counts_now
InputTold counts counts_now before now Memory = Unit {0}
InputTold counts counts_now before now Usage = ⊥
InputTold counts counts_now before now (Script line) = ⊥
InputTold counts counts_now before now WriteFault = ⊥
InputTold counts counts_now before now (NotLog shard at) = ⊥
InputTold counts counts_now before now (Exists shard len) = ⊥
InputTold counts counts_now before now (Apart tx) = ⊥
InputTold counts counts_now before now (WrongTransaction place) = ⊥
InputTold counts counts_now before now (WrongMap key) = ⊥
InputTold counts counts_now before now (Unsettled count) = ⊥

module _ (counts counts_now : ℕ → ℕ) (before now shards : ℕ) (above : (n : ℕ) → shards ≤ n → counts_now n ≡ counts n) where
  input_told : (running : Status) (read : Result (Unit {0}) ReadError) → DisksTold shards counts counts_now running → CountsReading before now read → InputTold counts counts_now before now (with_input running read)
  input_told Fine (Ok a) told counts_so = (stand shards counts counts_now told above, counts_so)
  input_told Fine (Err reading.Failed) told counts_so = (stand shards counts counts_now told above, counts_so.0)
  input_told Fine (Err reading.TooLong) told counts_so = tt
  input_told Fine (Err reading.Memory) told counts_so = tt
  input_told (DiskFault shard) (Ok a) told counts_so = (told.1, told.2)
  input_told (DiskFault shard) (Err reading.Failed) told counts_so = (told.1, told.2)
  input_told (DiskFault shard) (Err reading.TooLong) told counts_so = tt
  input_told (DiskFault shard) (Err reading.Memory) told counts_so = tt
  input_told (Worn at) (Ok a) told counts_so = stand shards counts counts_now told.1 above
  input_told (Worn at) (Err reading.Failed) told counts_so = stand shards counts counts_now told.1 above
  input_told (Worn at) (Err reading.TooLong) told counts_so = tt
  input_told (Worn at) (Err reading.Memory) told counts_so = tt
  input_told Memory (Ok a) told counts_so = tt
  input_told Memory (Err reading.Failed) told counts_so = tt
  input_told Memory (Err reading.TooLong) told counts_so = tt
  input_told Memory (Err reading.Memory) told counts_so = tt
  input_told Usage read told counts_so = absurd told
  input_told (Script line) read told counts_so = absurd told
  input_told ReadFault read told counts_so = absurd told
  input_told WriteFault read told counts_so = absurd told
  input_told (NotLog shard at) read told counts_so = absurd told
  input_told (Exists shard len) read told counts_so = absurd told
  input_told (Apart tx) read told counts_so = absurd told
  input_told (WrongTransaction place) read told counts_so = absurd told
  input_told (WrongMap key) read told counts_so = absurd told
  input_told (Unsettled count) read told counts_so = absurd told

-- what the status tells by itself
pub record Serves (counts counts_now : ℕ → ℕ) (stories : ℕ → Option Stories) (kept : Kept) (source source' sink sink' : ℕ) (status : Status) : Type 0 where
  pub kind : IsOfServe status
  pub logs : BreaksLogs status (Some kept) stories
  pub of_source : CountsServedSource source source' status
  pub of_sink : CountsServedSink sink sink' status
  pub disks : CountsDisks (Some kept) counts counts_now status

module _ (counts counts_now : ℕ → ℕ) (stories : ℕ → Option Stories) (kept : Kept) (source source' sink sink' : ℕ) where
  output_told : (status : Status) (written : Result (Unit {0}) ReportError) → InputTold counts counts_now source source' status → Causes sink sink' written → Serves counts counts_now stories kept source source' sink sink' (with_text status written)
  output_told Fine (Ok a) told causes = record { kind = tt; logs = tt; of_source = told.1; of_sink = causes; disks = told.0 }
  output_told Fine (Err text.Memory) told causes = record { kind = tt; logs = tt; of_source = tt; of_sink = tt; disks = tt }
  output_told Fine (Err text.Failed) told causes = record { kind = tt; logs = tt; of_source = told.1; of_sink = causes.0; disks = told.0 }
  output_told ReadFault (Ok a) told causes = record { kind = tt; logs = tt; of_source = told.1; of_sink = tt; disks = told.0 }
  output_told ReadFault (Err text.Memory) told causes = record { kind = tt; logs = tt; of_source = tt; of_sink = tt; disks = tt }
  output_told ReadFault (Err text.Failed) told causes = record { kind = tt; logs = tt; of_source = told.1; of_sink = tt; disks = told.0 }
  output_told (DiskFault shard) (Ok a) told causes = record { kind = tt; logs = tt; of_source = tt; of_sink = tt; disks = told }
  output_told (DiskFault shard) (Err text.Memory) told causes = record { kind = tt; logs = tt; of_source = tt; of_sink = tt; disks = tt }
  output_told (DiskFault shard) (Err text.Failed) told causes = record { kind = tt; logs = tt; of_source = tt; of_sink = tt; disks = told }
  output_told (Worn at) (Ok a) told causes = record { kind = tt; logs = tt; of_source = tt; of_sink = tt; disks = told }
  output_told (Worn at) (Err text.Memory) told causes = record { kind = tt; logs = tt; of_source = tt; of_sink = tt; disks = tt }
  output_told (Worn at) (Err text.Failed) told causes = record { kind = tt; logs = tt; of_source = tt; of_sink = tt; disks = told }
  output_told Memory (Ok a) told causes = record { kind = tt; logs = tt; of_source = tt; of_sink = tt; disks = tt }
  output_told Memory (Err text.Memory) told causes = record { kind = tt; logs = tt; of_source = tt; of_sink = tt; disks = tt }
  output_told Memory (Err text.Failed) told causes = record { kind = tt; logs = tt; of_source = tt; of_sink = tt; disks = tt }
  output_told Usage written told causes = absurd told
  output_told (Script line) written told causes = absurd told
  output_told WriteFault written told causes = absurd told
  output_told (NotLog shard at) written told causes = absurd told
  output_told (Exists shard len) written told causes = absurd told
  output_told (Apart tx) written told causes = absurd told
  output_told (WrongTransaction place) written told causes = absurd told
  output_told (WrongMap key) written told causes = absurd told
  output_told (Unsettled count) written told causes = absurd told

pub served_so : (before now : ℕ → Option Stories) (counts counts_now : ℕ → ℕ) (sessions : ℕ) (left left' taken taken' : Option (List ℕ)) (read : Result (Unit {0}) ReadError) (written : Result (Unit {0}) ReportError) (kept : Kept) (running status : Status) (source source' sink sink' : ℕ)
    → ServedAll before now counts counts_now sessions left left' taken taken' read written kept running → CountsReading source source' read → Causes sink sink' written → status ≡ with_text (with_input running read) written
    → Serves counts counts_now before kept source source' sink sink' status
served_so before now counts counts_now sessions left left' taken taken' read written kept running status source source' sink sink' r reads writes is =
    subst (Serves counts counts_now before kept source source' sink sink') (sym is)
    (output_told counts counts_now before kept source source' sink sink' (with_input running read) written (input_told counts counts_now source source' (shard_count r.splits) (λ n l. (r.others n l).1) running read r.disks reads) writes)
