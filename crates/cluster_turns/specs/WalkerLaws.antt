-- What turns make of what a walker keeps.
use Rattle.std.specs.Prelude.{◌≡◌, ℕ, ◌≤◌, List, ◌++◌, Option}
use Rattle.std.specs.List.{AllByRecursion}
use Rattle.turn_lock.specs.declared.pass.Pass.{Pass}
use Rattle.machine_laws.specs.declared.notes.Note.{Note}
use Rattle.machine_laws.specs.declared.notes.Origin.{Origin}
use Rattle.cluster_turns.specs.Walkers.{kept}
use Rattle.cluster_turns.specs.CallTurns.{Turn, Took, IsMadeBy, entries_made}

-- turns after turns
abbrev pub TurnsFollow : Type 0 → Type 0
TurnsFollow T =
    (w c d e : ℕ) (ps qs rs : List (Option (Pass T Note Origin))) (ts us : List Turn) → Took w c ps ts d qs → Took w d qs us e rs → Took w c ps (ts ++ us) e rs

-- what the walker keeps grows by the entries that its turns made
abbrev pub KeptGrows : Type 0 → Type 0
KeptGrows T = (w c d : ℕ) (ps qs : List (Option (Pass T Note Origin))) (ts : List Turn) → Took w c ps ts d qs → kept qs ≡ kept ps ++ entries_made ts

-- each is the walker's, of its turn's event, with what that was answered
abbrev pub EntriesAreMade : Type 0 → Type 0
EntriesAreMade T = (w c d : ℕ) (ps qs : List (Option (Pass T Note Origin))) (ts : List Turn) → Took w c ps ts d qs → AllByRecursion (IsMadeBy w) ts

-- the clock never falls
abbrev pub ClockRises : Type 0 → Type 0
ClockRises T = (w c d : ℕ) (ps qs : List (Option (Pass T Note Origin))) (ts : List Turn) → Took w c ps ts d qs → c ≤ d
