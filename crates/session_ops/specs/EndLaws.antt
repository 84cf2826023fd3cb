-- Gates through a walker's turns.
use Rattle.std.specs.Prelude.{ℕ, List, Option}
use Rattle.turn_lock.specs.declared.pass.Pass.{Pass}
use Rattle.machine_laws.specs.declared.notes.Note.{Note}
use Rattle.machine_laws.specs.declared.notes.Origin.{Origin}
use Rattle.cluster_turns.specs.Walkers.{Looked}
use Rattle.cluster_closing.specs.Landed.{HasLanded}
use Rattle.cluster_turns.specs.CallTurns.{Turn, Took}

-- a walker that has the gate of no shard has none after its turns
abbrev pub TurnsLand : Type 0 → Type 0
TurnsLand T = (w c d : ℕ) (ps qs : List (Option (Pass T Note Origin))) (ts : List Turn) → Took w c ps ts d qs → HasLanded w ps → HasLanded w qs

-- nor after a look at a horizon
abbrev pub LooksLand : Type 0 → Type 0
LooksLand T = (w n horizon : ℕ) (ps qs : List (Option (Pass T Note Origin))) → Looked n ps horizon qs → HasLanded w ps → HasLanded w qs
