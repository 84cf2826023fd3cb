-- What a history promises that a command leaves.
use Rattle.std.specs.Prelude.{◌≡◌, ℕ, ◌*◌, List, [], Option, Some, None, IfSome, Result}
use Rattle.cluster_opening.specs.Logs.{LogsOfAll}
use Rattle.cluster_runs.specs.Ran.{RanAll}
use Rattle.command_line.specs.declared.commands.Command.{Command}
use Rattle.command_line.specs.declared.commands.Command.TheVariants.{Make, Run, Show, Load, Serve, Audit, Standby}
use Rattle.io_model.specs.Sides.{Stories}
use Rattle.io_model.specs.declared.whole.ReadError.{ReadError}
use Rattle.live_threads.specs.Lives.{Life}
use Rattle.live_runs.specs.Lived.{LivesPromised, ServedAll}
use Rattle.clv_commands.specs.Statuses.{with_input}
use Rattle.history_replay.specs.Entries.{Kept}
use Rattle.history_replay.specs.Replayed.{replayed}
use Rattle.workload_laws.specs.Sums.{accounts_sum}
use Rattle.cluster_runs.specs.Replays.{LeavesReplayed}
use Rattle.report_text.specs.declared.texts.ReportError.{ReportError}
use Rattle.script_lang.specs.Bodies.{Body}
use Rattle.script_lang.specs.Grammar.{IsScript}
use Rattle.script_lang.specs.Loads.{load}
use Rattle.script_runs.specs.declared.threads.Start.TheVariants.{Together, FirstAlone}
use Rattle.command_line.specs.Running.{with_text}
use Rattle.command_line.specs.declared.status.Status.{Status}
use Rattle.command_line.specs.declared.status.Status.TheVariants.{Fine, WriteFault}

-- the script that some bytes are: the source's, where it tells them
abbrev pub HasScript : Option (List ℕ) → List (List Body) → Type 0
HasScript left script = (bytes : List ℕ) × IsScript bytes script × IfSome left (λ told. told ≡ bytes)

-- a run's status, by what became of its text
abbrev pub EndsAs : Status → Status → Type 0
EndsAs running status = (written : Result (Unit {0}) ReportError) × (status ≡ with_text running written)

-- the history keeps the promise of a run of the script, and the status is the one that this run came to
abbrev pub HasRun : Option ℕ → List (List Body) → (ℕ → Option Stories) → (ℕ → Option Stories) → (ℕ → ℕ) → (ℕ → ℕ) → Kept → Status → Type 0
HasRun most script before now counts counts_now kept status =
    (running : Status) × RanAll before now counts counts_now most Together script kept running × EndsAs running status

-- so does a workload's of so many accounts, each transaction tried without limit, and the first one of the first session, which fills the accounts, alone:
-- before all of other sessions; and where all was fine, what stands is the map after the acknowledged transactions, by which the accounts hold 1000 each in all
abbrev pub HasLoaded : ℕ → List (List Body) → (ℕ → Option Stories) → (ℕ → Option Stories) → (ℕ → ℕ) → (ℕ → ℕ) → Kept → Status → Type 0
HasLoaded accounts script before now counts counts_now kept status =
    (running : Status) × (r : RanAll before now counts counts_now None FirstAlone script kept running) × EndsAs running status
    × (running ≡ Fine → LeavesReplayed r.splits kept ((r.promised).keeps).left × (accounts_sum accounts (replayed kept) ≡ 1000 * accounts))

-- of `run` the script is the source's; `show` runs none; of `load` it is the workload's; of `serve` each session did the lines that it took
abbrev pub PromisedBy : Command → Option (List ℕ) → (ℕ → Option Stories) → (ℕ → Option Stories) → (ℕ → ℕ) → (ℕ → ℕ) → Status → Kept → Type 0
PromisedBy (Run tries) left before now counts counts_now status kept =
    (script : List (List Body)) × HasScript left script × HasRun (Some tries) script before now counts counts_now kept status
PromisedBy Show left before now counts counts_now status kept = HasRun None [] before now counts counts_now kept status
PromisedBy (Load seed sessions accounts transfers) left before now counts counts_now status kept =
    HasLoaded accounts (load seed sessions accounts transfers) before now counts counts_now kept status
PromisedBy (Make splits) left before now counts counts_now status kept = ⊥
PromisedBy Audit left before now counts counts_now status kept = ⊥
PromisedBy (Standby firsts) left before now counts counts_now status kept = ⊥
PromisedBy (Serve sessions) left before now counts counts_now status kept =
    (splits : List ℕ) × (lives : ℕ → Life) × LogsOfAll splits kept.found before × LivesPromised splits before now counts counts_now sessions lives kept

-- `serve` did the lines that it read, and wrote their replies; its status is that of its sessions and its drains, by what became of the input and of the output
abbrev pub ServedBy : Command → Option (List ℕ) → Option (List ℕ) → Option (List ℕ) → Option (List ℕ) → (ℕ → Option Stories) → (ℕ → Option Stories) → (ℕ → ℕ) → (ℕ → ℕ) → Status → Kept → Type 0
ServedBy (Serve sessions) left left' taken taken' before now counts counts_now status kept =
    (running : Status) × (read : Result (Unit {0}) ReadError) × (written : Result (Unit {0}) ReportError)
    × ServedAll before now counts counts_now sessions left left' taken taken' read written kept running × (status ≡ with_text (with_input running read) written)
ServedBy command left left' taken taken' before now counts counts_now status kept = Unit {0}

-- shards were opened where `run`, `show`, `load` or `serve` was fine but for the sink; `make`, `audit` and `standby` open none
abbrev pub Opened : Option Kept → Status → Type 0
Opened (Some kept) status = Unit {0}
Opened None Fine = ⊥
Opened None WriteFault = ⊥
Opened None status = Unit {0}

abbrev pub OpensByCommand : Command → Status → Option Kept → Type 0
OpensByCommand (Run tries) status history = Opened history status
OpensByCommand Show status history = Opened history status
OpensByCommand (Load seed sessions accounts transfers) status history = Opened history status
OpensByCommand (Serve sessions) status history = Opened history status
OpensByCommand (Make splits) status history = history ≡ None
OpensByCommand Audit status history = history ≡ None
OpensByCommand (Standby counts) status history = history ≡ None
