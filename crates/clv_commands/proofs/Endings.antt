-- How a command ends that opened the shards, and one that did not.
use Rattle.std.proofs.Common.{◌≡◌, refl, sym, subst, ⊎_elim, ℕ, ◌<◌, ◌≤◌, List, Option, Some, None, Result, Ok, Err}
use Rattle.std.proofs.lemmas.Bool.{cases_lt}
use Rattle.clv_base.specs.Shards.{shard_count}
use Rattle.io_model.specs.Sides.{Stories}
use Rattle.cluster_opening.specs.declared.error.OpenError.{OpenError}
use Rattle.cluster_opening.specs.declared.error.OpenError.TheVariants as opening
use Rattle.cluster_runs.specs.Begun.{LeavesDisks}
use Rattle.cluster_runs.specs.Ran.{RanAll}
use Rattle.history_replay.specs.Entries.{Kept}
use Rattle.report_text.specs.declared.texts.ReportError.{ReportError}
use Rattle.report_text.specs.declared.texts.ReportError.TheVariants as text
use Rattle.clv_base.specs.Journals.{History}
use Rattle.cluster_runs.specs.Histories.{entries}
use Rattle.cluster_runs.specs.Statuses.{StatusTold}
use Rattle.command_line.specs.Refusals.{of_opening}
use Rattle.command_line.specs.Running.{with_text}
use Rattle.cluster_runs.specs.PromisedSessions.{Went}
use Rattle.script_lang.specs.Bodies.{Body}
use Rattle.script_runs.specs.declared.threads.Start.{Start}
use Rattle.command_line.specs.declared.status.Status.{Status}
use Rattle.command_line.specs.declared.status.Status.TheVariants.{Fine, Usage, Script, ReadFault, WriteFault, DiskFault, NotLog, Memory, Worn, Exists, Apart, WrongTransaction, WrongMap, Unsettled}
use Rattle.clv_commands.specs.Kinds.{IsOfRun, IsOfShow, IsOfShards}
use Rattle.clv_commands.specs.Disks.{Closes}
use Rattle.clv_commands.specs.Sinks.{TookPairs}
use Rattle.clv_commands.specs.Causes.{BreaksLogs, BreaksScript, CountsSource, CountsSink, CountsDisks, Stand}
use Rattle.clv_commands.specs.Runs.{EndsAs, Opened}
use Rattle.law_base.proofs.Numbers.{below_differs as below}

-- ---- the shards were opened

-- what an ended command's status tells by itself
pub record Tells (counts counts_now : ℕ → ℕ) (stories : ℕ → Option Stories) (kept : Kept) (left : Option (List ℕ)) (faults faults' : ℕ) (status : Status) : Type 0 where
  pub runs : IsOfRun status
  pub shows : IsOfShow status
  pub logs : BreaksLogs status (Some kept) stories
  pub script : BreaksScript status left
  pub source : CountsSource faults faults' status
  pub disks : CountsDisks (Some kept) counts counts_now status

pub stand : (shards : ℕ) (counts counts_now : ℕ → ℕ) → ((n : ℕ) → n < shards → counts_now n ≡ counts n) → ((n : ℕ) → shards ≤ n → counts_now n ≡ counts n) → Stand counts counts_now
stand shards counts counts_now below above n = ⊎_elim (λ l. below n l) (λ l. above n l) (cases_lt n shards)

module _ (counts counts_now : ℕ → ℕ) (stories : ℕ → Option Stories) (kept : Kept) (left : Option (List ℕ)) (faults faults' : ℕ) (shards : ℕ) (script : List (List Body)) (h : History) (went : ℕ → Went) where
  tells : (running : Status) (written : Result (Unit {0}) ReportError) → StatusTold shards counts counts_now script h went running → ((n : ℕ) → shards ≤ n → counts_now n ≡ counts n) → faults' ≡ faults
      → Tells counts counts_now stories kept left faults faults' (with_text running written)
  tells Fine (Ok a) told above e = record { runs = tt; shows = tt; logs = tt; script = tt; source = e; disks = stand shards counts counts_now told.0 above }
  tells Fine (Err text.Memory) told above e = record { runs = tt; shows = tt; logs = tt; script = tt; source = e; disks = tt }
  tells Fine (Err text.Failed) told above e = record { runs = tt; shows = tt; logs = tt; script = tt; source = e; disks = stand shards counts counts_now told.0 above }
  tells Usage written told above e = absurd told
  tells (Script line) written told above e = absurd told
  tells ReadFault written told above e = absurd told
  tells WriteFault written told above e = absurd told
  tells (DiskFault shard) (Ok a) told above e = record { runs = tt; shows = tt; logs = tt; script = tt; source = e; disks = (told.1, told.2) }
  tells (DiskFault shard) (Err text.Memory) told above e = record { runs = tt; shows = tt; logs = tt; script = tt; source = e; disks = tt }
  tells (DiskFault shard) (Err text.Failed) told above e = record { runs = tt; shows = tt; logs = tt; script = tt; source = e; disks = (told.1, told.2) }
  tells (NotLog shard at) written told above e = absurd told
  tells Memory (Ok a) told above e = record { runs = tt; shows = tt; logs = tt; script = tt; source = e; disks = tt }
  tells Memory (Err text.Memory) told above e = record { runs = tt; shows = tt; logs = tt; script = tt; source = e; disks = tt }
  tells Memory (Err text.Failed) told above e = record { runs = tt; shows = tt; logs = tt; script = tt; source = e; disks = tt }
  tells (Worn at) (Ok a) told above e = record { runs = tt; shows = tt; logs = tt; script = tt; source = e; disks = stand shards counts counts_now told.2 above }
  tells (Worn at) (Err text.Memory) told above e = record { runs = tt; shows = tt; logs = tt; script = tt; source = e; disks = tt }
  tells (Worn at) (Err text.Failed) told above e = record { runs = tt; shows = tt; logs = tt; script = tt; source = e; disks = stand shards counts counts_now told.2 above }
  tells (Exists shard len) written told above e = absurd told
  tells (Apart tx) written told above e = absurd told
  tells (WrongTransaction place) written told above e = absurd told
  tells (WrongMap key) written told above e = absurd told
  tells (Unsettled count) written told above e = absurd told

pub ended_so : (before now : ℕ → Option Stories) (counts counts_now : ℕ → ℕ) (most : Option ℕ) (start : Start) (script : List (List Body)) (kept : Kept) (left : Option (List ℕ)) (faults faults' : ℕ) (running status : Status)
    → RanAll before now counts counts_now most start script kept running → EndsAs running status → faults' ≡ faults → Tells counts counts_now before kept left faults faults' status
ended_so before now counts counts_now most start script kept left faults faults' running status r (written, is) e =
    subst (Tells counts counts_now before kept left faults faults') (sym is)
    (tells counts counts_now before kept left faults faults' (shard_count r.splits) script (entries kept) r.went running written r.told (λ n l. (r.others n l).1) e)

-- ---- they were not

pub record Refused (counts counts_now : ℕ → ℕ) (stories stories' : ℕ → Option Stories) (left : Option (List ℕ)) (faults faults' taken : ℕ) (status : Status) : Type 0 where
  pub runs : IsOfRun status
  pub shows : IsOfShow status
  pub opened : Opened None status
  pub closed : Closes status stories stories'
  pub logs : BreaksLogs status None stories
  pub script : BreaksScript status left
  pub source : CountsSource faults faults' status
  pub sink : CountsSink None taken taken status
  pub disks : CountsDisks None counts counts_now status

pub refusals_close : (e : OpenError) (stories stories' : ℕ → Option Stories) → LeavesDisks stories stories' e → Closes (of_opening e) stories stories'
refusals_close (opening.Failed shard) stories stories' left = left
refusals_close (opening.NotLog shard at) stories stories' left = left
refusals_close (opening.Apart tx) stories stories' left = left
refusals_close (opening.Worn at) stories stories' left = left
refusals_close opening.Memory stories stories' left = left

-- ---- pairs that aren't written

pub unshown : (running : Status) (kept : Kept) (pairs : List ℕ) (faults : ℕ) (old : Option (List ℕ)) → (running ≡ Fine → ⊥) → IsOfShards running → TookPairs pairs running old old × CountsSink (Some kept) faults faults running
unshown Fine kept pairs faults old other of = absurd (other refl)
unshown Usage kept pairs faults old other of = absurd of
unshown (Script line) kept pairs faults old other of = absurd of
unshown ReadFault kept pairs faults old other of = absurd of
unshown WriteFault kept pairs faults old other of = absurd of
unshown (DiskFault shard) kept pairs faults old other of = (refl, tt)
unshown (NotLog shard at) kept pairs faults old other of = absurd of
unshown Memory kept pairs faults old other of = (refl, refl)
unshown (Worn at) kept pairs faults old other of = (refl, tt)
unshown (Exists shard len) kept pairs faults old other of = absurd of
unshown (Apart tx) kept pairs faults old other of = absurd of
unshown (WrongTransaction place) kept pairs faults old other of = absurd of
unshown (WrongMap key) kept pairs faults old other of = absurd of
unshown (Unsettled count) kept pairs faults old other of = absurd of
