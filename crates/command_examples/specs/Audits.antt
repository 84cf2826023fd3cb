-- A run whose report is audited.
use Rattle.std.specs.Prelude.{◌≡◌, ⊤, ℕ, ◌<◌, ◌≤◌, List, length, Option, Some, IsSome, IfSome}
use Rattle.clv_base.specs.Logs.{stands}
use Rattle.io_model.specs.Sides.{Stories}
use Rattle.history_replay.specs.Entries.{Kept}
use Rattle.script_lang.specs.Grammar.{most_bytes}
use Rattle.command_line.specs.declared.commands.Command.TheVariants.{Show}
use Rattle.command_line.specs.declared.status.Status.{Status}
use Rattle.command_line.specs.declared.status.Status.TheVariants.{Fine, Script, WrongTransaction, WrongMap, Unsettled}
use Rattle.run_audit_laws.specs.Runs.{whole_text}
use Rattle.clv_commands.specs.Runs.{PromisedBy}

-- an audit that found nothing against the report: it is true, or there was no verdict, as the source, the sink or a disk failed, or memory was wanting
abbrev pub IsNotRefuted : Status → Type 0
IsNotRefuted (Script line) = ⊥
IsNotRefuted (WrongTransaction place) = ⊥
IsNotRefuted (WrongMap key) = ⊥
IsNotRefuted (Unsettled count) = ⊥
IsNotRefuted status = ⊤

-- the disks of the run's shards tell their bytes
abbrev pub AreToldBy : Kept → (ℕ → Option Stories) → Type 0
AreToldBy kept stories = (n : ℕ) → n < length kept.found → IsSome (stories n)

-- where the run was fine, and the audit's source has the lines of the pairs that the logs found stand for, and then the run's report, and nothing else
abbrev pub IsConfirmed : (ℕ → Option Stories) → Option (List ℕ) → Status → Option Kept → Status → Type 0
IsConfirmed now left ran history audited =
    ran ≡ Fine
    → IfSome history
    (λ kept. AreToldBy kept now → left ≡ Some (whole_text kept) → length (whole_text kept) ≤ most_bytes → IsNotRefuted audited)

-- what a `show` told before it, whose disks told their bytes behind it, are the pairs that the logs found stand for
abbrev pub StandsAsShown : (ℕ → Option Stories) → Kept → Type 0
StandsAsShown between kept =
    (left : Option (List ℕ)) (before : ℕ → Option Stories) (counts counts_now : ℕ → ℕ) (status : Status) (shown : Kept)
    → PromisedBy Show left before between counts counts_now status shown → AreToldBy shown between → stands kept.found ≡ stands shown.found
