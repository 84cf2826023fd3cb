-- How late the stamps are that a walker has seen, and that its clock goes by them.
use Rattle.std.specs.Prelude.{ℕ, ◌≤◌, ◌^◌, ◌-◌, max, List, [], ◌∷◌, Option, Some, None, Result, Err}
use Rattle.clv_base.specs.declared.events.Entry.{Entry}
use Rattle.turn_lock.specs.declared.pass.Pass.{Pass}
use Rattle.turn_lock.specs.Passes.{seen}
use Rattle.machine_laws.specs.declared.notes.Note.{Note}
use Rattle.machine_laws.specs.declared.notes.Origin.{Origin}
use Rattle.machine_laws.specs.Homes.{entries_in}
use Rattle.cluster_turns.specs.CallTurns.{Turn, Took}
use Rattle.cluster_turns.specs.Rounds.{DrainTold}
use Rattle.cluster_turns.specs.declared.tending.DrainError.{DrainError}
use Rattle.cluster_turns.specs.declared.tending.DrainError.TheVariants.{Worn}

-- the greatest stamp of entries, 0 where there is none
abbrev pub latest : List Entry → ℕ
latest [] = 0
latest (e ∷ es) = max e.stamp (latest es)

module _ {T : Type 0} where
  -- of those that a pass has seen, and that all passes of a walker have
  abbrev pub seen_by : Option (Pass T Note Origin) → ℕ
  seen_by None = 0
  seen_by (Some p) = latest (entries_in (seen p))

  abbrev pub last_seen : List (Option (Pass T Note Origin)) → ℕ
  last_seen [] = 0
  last_seen (p ∷ ps) = max (seen_by p) (last_seen ps)

  -- the walker has seen no less than before, and its clock rose no further than the stamps that it has seen
  abbrev pub IsDated : ℕ → List (Option (Pass T Note Origin)) → ℕ → List (Option (Pass T Note Origin)) → Type 0
  IsDated clock before clock' after = (last_seen before ≤ last_seen after) × (clock' ≤ max clock (last_seen after))

-- turns leave it so; so where an event of one would have had a stamp past the last, the walker has seen the stamp that made it so, or its clock was at its end before
abbrev pub TurnsAreDated : Type 0 → Type 0
TurnsAreDated T = (w c d : ℕ) (ps qs : List (Option (Pass T Note Origin))) (ts : List Turn) → Took w c ps ts d qs → IsDated c ps d qs

-- and so does a drain
abbrev pub DrainsAreDated : Type 0 → Type 0
DrainsAreDated T = (count w c d : ℕ) (ps qs : List (Option (Pass T Note Origin))) (r : Result Unit DrainError) → DrainTold count w c ps r d qs → IsDated c ps d qs

-- where that found a stamp past the last, the clock is at its end
abbrev pub DrainsWearOut : Type 0 → Type 0
DrainsWearOut T = (count w c d at : ℕ) (ps qs : List (Option (Pass T Note Origin))) → DrainTold count w c ps (Err (Worn at)) d qs → 2 ^ 48 - 1 ≤ d
