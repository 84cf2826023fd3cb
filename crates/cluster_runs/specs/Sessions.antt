-- The walkers of a run, and how its sessions went.
use Rattle.std.specs.Prelude.{◌≡◌, ⊤, ℕ, zero, suc, ◌+◌, ◌-◌, ◌<◌, ◌≤◌, ◌^◌, max, List, [], ◌∷◌, length, slice_get, slice_index_or, Option, Some, None, Err, IfErr}
use Rattle.std.specs.List.{AllByRecursion}
use Rattle.cluster_turns.specs.declared.shards.Shards.{Shards}
use Rattle.cluster_turns.specs.declared.shards.Walker.{Walker}
use Rattle.cluster_turns.specs.Walkers.{kept}
use Rattle.cluster_turns.specs.Dates.{last_seen}
use Rattle.cluster_opening.specs.Made.{IsNewWalker}
use Rattle.script_lang.specs.Bodies.{Body}
use Rattle.script_lang.specs.Savepoints.{Savepoints}
use Rattle.script_runs.specs.declared.ends.StopCause.TheVariants.{Worn}
use Rattle.script_runs.specs.Ran.{stop_in}
use Rattle.script_runs.specs.Sessions.{session_entries}
use Rattle.command_line.specs.Running.{End, IsOk}
use Rattle.session_api.specs.declared.progress.Progress.{Progress}
use Rattle.session_api.specs.declared.progress.Progress.TheVariants.{Idle}
use Rattle.session_api.specs.Standing.{HoldsSaves, IsAtRest}
use Rattle.session_api.specs.Grounds.{Grounds}
use Rattle.cluster_runs.specs.PromisedSessions.{Went, NotBegun, Begun, SessionWent}

-- how far each session came, by the ends of those that were begun
abbrev pub went_to : Option End → Went
went_to None = NotBegun
went_to (Some end) = Begun (stop_in end)

abbrev pub went_by : List End → ℕ → Went
went_by ends k = went_to (slice_get ends k)

-- the clock from which session k's rose: the one that they all had, or, but for the first, one that the first one came to if that is later
abbrev pub base_from : ℕ → ℕ → ℕ → ℕ
base_from clock base zero = clock
base_from clock base (suc k) = max clock base

module _ {M S G : Type 0} where
  -- a seat of session k, before it has begun, whose walker has this clock
  pub record IsSeated (sh : Shards M S G) (clock : ℕ) (script : List (List Body)) (k : ℕ) (shards : Shards M S G) (w : Walker M S G) (s : Progress) (saves : List ℕ) (marks : Savepoints) (transactions : List Body) : Type 0 where
    pub on : shards ≡ sh
    pub new : IsNewWalker sh (suc k) clock w
    pub none_begun : s ≡ Idle
    pub holds : HoldsSaves sh w s saves marks
    pub bodies : (bodies : List Body) → slice_get script k ≡ Some bodies → transactions ≡ bodies

  -- ---- stamps that come to their end

  -- the greatest stamp that any of these walkers has seen, and how many tries they began, which their serials tell
  abbrev pub seen_by_all : List (Walker M S G) → ℕ
  seen_by_all [] = 0
  seen_by_all (w ∷ ws) = max (last_seen w.passes.items) (seen_by_all ws)

  abbrev pub begun_by_all : List (Walker M S G) → ℕ
  begun_by_all [] = 0
  begun_by_all (w ∷ ws) = w.serial + begun_by_all ws

  -- stamps are wanting only past the last one, and only where the walkers came to it: past the stamps that they have seen by one at most for each try
  abbrev pub HasWornLast : List (Walker M S G) → End → Type 0
  HasWornLast walkers end = (at : ℕ) → end ≡ Err (Worn at) → (at ≡ 2 ^ 48) × (2 ^ 48 - 1 ≤ seen_by_all walkers + begun_by_all walkers)

  -- walker 0 began none, and each session no more than it has transactions and made entries
  pub record AreCounted (script : List (List Body)) (walkers : List (Walker M S G)) : Type 0 where
    pub none : (d : Walker M S G) → (slice_index_or walkers 0 d).serial ≡ 0
    pub few : (k : ℕ) (bodies : List Body) (d : Walker M S G) → slice_get script k ≡ Some bodies
        → (slice_index_or walkers (suc k) d).serial ≤ length bodies + length (session_entries (kept (slice_index_or walkers (suc k) d).passes.items))

  -- what its walker made, once it has ended; all of it past that clock. Its own clock rose from this base
  pub record HasSat (sh : Shards M S G) (clock base : ℕ) (most : Option ℕ) (script : List (List Body)) (k : ℕ) (w : Walker M S G) (end : End) : Type 0 where
    pub rest : IsAtRest sh (suc k) w
    pub went : (bodies : List Body) → slice_get script k ≡ Some bodies → SessionWent sh.splits sh.run (suc k) most bodies (Begun (stop_in end)) (kept w.passes.items)
    pub dated : w.clock ≤ w.serial + max base (last_seen w.passes.items)
    pub few : (bodies : List Body) → slice_get script k ≡ Some bodies → w.serial ≤ length bodies + length (session_entries (kept w.passes.items))
    pub grounds : IfErr end (Grounds w)
    pub later : AllByRecursion (λ e. clock < (e.1).stamp) (session_entries (kept w.passes.items))

  -- all of them
  pub record HaveSat {X : Type 0} (sh : Shards M S G) (clock : ℕ) (most : Option ℕ) (script : List (List Body)) (walker_of : ℕ → X → Walker M S G) (end_of : ℕ → X → End) : Type 0 where
    pub base : ℕ
    pub reached : (d : X) → 0 < length script → base ≤ (walker_of 0 d).serial + max clock (last_seen (walker_of 0 d).passes.items)
    pub each : (k : ℕ) (d : X) → k < length script → HasSat sh clock (base_from clock base k) most script k (walker_of k d) (end_of k d)

  -- what stopped it, if anything did, has its grounds
  abbrev pub HasGrounds : Went → Walker M S G → Type 0
  HasGrounds NotBegun w = ⊤
  HasGrounds (Begun None) w = ⊤
  HasGrounds (Begun (Some cause)) w = Grounds w cause

  -- each session of the script went so, and what stopped it has its grounds; where the end is fine each went through
  pub record SessionsGone (sh : Shards M S G) (most : Option ℕ) (script : List (List Body)) (walkers : List (Walker M S G)) (went : ℕ → Went) (end : End) : Type 0 where
    pub each : (k : ℕ) (bodies : List Body) (d : Walker M S G) → slice_get script k ≡ Some bodies → SessionWent sh.splits sh.run (suc k) most bodies (went k) (kept (slice_index_or walkers (suc k) d).passes.items)
    pub grounds : (k : ℕ) (d : Walker M S G) → k < length script → HasGrounds (went k) (slice_index_or walkers (suc k) d)
    pub fine : IsOk end → (k : ℕ) → k < length script → went k ≡ Begun None
