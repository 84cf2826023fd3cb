-- Births through a walker's turns.
use Rattle.std.specs.Prelude.{◌≡◌, ℕ, ◌<◌, ◌≤◌, List, Option}
use Rattle.std.specs.List.{AllByRecursion}
use Rattle.clv_base.specs.declared.names.TxId.{TxId}
use Rattle.clv_base.specs.declared.names.Birth.{Birth}
use Rattle.clv_base.specs.declared.logs.LogRecord.{LogRecord}
use Rattle.journal_laws.specs.Births.{LeavesBirth}
use Rattle.turn_lock.specs.declared.pass.TurnLock.{TurnLock}
use Rattle.turn_lock.specs.declared.pass.Pass.{Pass}
use Rattle.machine_laws.specs.declared.notes.Note.{Note}
use Rattle.machine_laws.specs.declared.notes.Origin.{Origin}
use Rattle.cluster_turns.specs.Walkers.{AreNewPasses}
use Rattle.cluster_turns.specs.CallTurns.{Turn, Took}
use Rattle.cluster_turns.specs.Births.{IsBornBy, AllSeeFree, AreInformed}

-- a birth stays free while the walker's own turns leave it to its transaction
abbrev pub FreeStays : Type 0 → Type 0
FreeStays T =
    (w c d : ℕ) (ps qs : List (Option (Pass T Note Origin))) (ts : List Turn) (tx : TxId) (birth : Birth) → Took w c ps ts d qs → birth.session ≡ w → AllByRecursion (λ t. LeavesBirth tx birth t.event) ts
    → AllSeeFree tx birth ps → AllSeeFree tx birth qs

-- passes stay informed
abbrev pub InformedStay : Type 0 → Type 0
InformedStay T =
    (w c d : ℕ) (ps qs : List (Option (Pass T Note Origin))) (ts : List Turn) → Took w c ps ts d qs → AllByRecursion (λ t. IsBornBy c t.event) ts → AreInformed w c ps → AreInformed w d qs

-- with a later clock too
abbrev pub InformedLater : Type 0 → Type 0
InformedLater T = (w c d : ℕ) (ps : List (Option (Pass T Note Origin))) → c ≤ d → AreInformed w c ps → AreInformed w d ps

-- new ones are
abbrev pub NewAreInformed : Type 0 → Type 0
NewAreInformed T = (splits : List ℕ) (founds : List (List LogRecord)) (locks : List (TurnLock T Note Origin)) (w clock : ℕ) (ps : List (Option (Pass T Note Origin))) → AreNewPasses splits founds locks w ps → AreInformed w clock ps

-- a birth past the clock is free
abbrev pub NewIsFree : Type 0 → Type 0
NewIsFree T = (w clock : ℕ) (ps : List (Option (Pass T Note Origin))) (tx : TxId) (birth : Birth) → AreInformed w clock ps → birth.session ≡ w → clock < birth.stamp → AllSeeFree tx birth ps
