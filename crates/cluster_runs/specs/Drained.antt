-- What the drains before and behind a run's sessions leave.
use Rattle.std.specs.Prelude.{◌≡◌, ℕ, suc, ◌<◌, ◌≤◌, ◌^◌, ◌-◌, true, not, List, ◌++◌, Option, Some, Err, length, slice_index_or}
use Rattle.std.specs.List.{AllByRecursion, list_all}
use Rattle.clv_base.specs.declared.events.Entry.{Entry}
use Rattle.clv_base.specs.State.{Shard}
use Rattle.clv_base.specs.Sessions.{is_of_session}
use Rattle.clv_base.specs.Journals.{journal_of, start_of}
use Rattle.clv_base.specs.Machines.{Runs}
use Rattle.turn_lock.specs.Journals.{StartsWith}
use Rattle.turn_lock.specs.declared.pass.Pass.{Pass}
use Rattle.turn_lock.specs.Passes.{seen, pass_origin}
use Rattle.machine_calls.specs.Settled.{is_quiet, is_settled}
use Rattle.machine_laws.specs.declared.notes.Note.{Note}
use Rattle.machine_laws.specs.declared.notes.Origin.{Origin}
use Rattle.machine_laws.specs.Homes.{IsLegal}
use Rattle.history_replay.specs.Entries.{Kept}
use Rattle.cluster_turns.specs.declared.shards.Shards.{Shards}
use Rattle.cluster_turns.specs.declared.shards.Walker.{Walker}
use Rattle.cluster_turns.specs.Turns.{SettledTold}
use Rattle.cluster_turns.specs.declared.tending.DrainError.{DrainError}
use Rattle.cluster_turns.specs.declared.tending.DrainError.TheVariants.{Worn}
use Rattle.cluster_turns.specs.Walkers.{kept}
use Rattle.cluster_turns.specs.Dates.{IsDated, last_seen}
use Rattle.session_api.specs.Standing.{IsAtRest}
use Rattle.script_runs.specs.declared.ends.StopCause.{StopCause}
use Rattle.script_runs.specs.declared.ends.StopCause.TheVariants.{Worn as StopWorn}
use Rattle.script_runs.specs.Sessions.{session_entries}
use Rattle.command_line.specs.Running.{End}
use Rattle.cluster_runs.specs.declared.draining.Sight.{Sight}
use Rattle.cluster_runs.specs.Histories.{entries}
use Rattle.cluster_runs.specs.PromisedSessions.{Went, Begun}

-- ---- in the history

-- after some first entries of its journal, of which only sessions make none, the shard was settled: nothing was buffered or in flight, no message was to be
-- sent, no closed part was undecided, and no request was undecided or unacknowledged
pub record WasDrained (n : ℕ) (run : Kept) : Type 0 where
  pub front : List Entry
  pub behind : List Entry
  pub journal_is : journal_of n (entries run) ≡ front ++ behind
  pub state : Shard
  pub runs : Runs (start_of run.found n) front state
  pub settled : is_settled state ≡ true
  pub no_session : list_all (λ e. not (is_of_session e.event)) front ≡ true

-- its whole journal leads to a state in which it is settled so, and no part of it is active
pub record IsQuietAtEnd (n : ℕ) (run : Kept) : Type 0 where
  pub state : Shard
  pub runs : Runs (start_of run.found n) (journal_of n (entries run)) state
  pub quiet : is_quiet state ≡ true

-- ---- as walker 0 has seen it

-- a look at the state, which makes no entry: whether it is settled, and no part active besides, and its last stamp
pub record LookTold (sight : Sight) (s t : Shard) (added : List Note) : Type 0 where
  pub settled : SettledTold sight.settled s t added
  pub quiet_is : sight.quiet ≡ is_quiet t
  pub last_is : sight.last ≡ t.last

module _ {T : Type 0} where
  -- after the first of the notes that the pass has seen, the shard was settled, and its last stamp was not past the clock
  pub record HasSeenSettled (clock : ℕ) (p : Pass T Note Origin) : Type 0 where
    pub origin : Origin
    pub has_origin : pass_origin p ≡ Some origin
    pub first : List Note
    pub later : List Note
    pub seen_is : seen p ≡ first ++ later
    pub s : Shard
    pub s_is : IsLegal origin first s
    pub settled : is_settled s ≡ true
    pub early : s.last ≤ clock

  -- in the state of the journal that its pass has seen shard n is settled, and no part of it is active
  pub record QuietAt (n : ℕ) (passes : List (Option (Pass T Note Origin))) : Type 0 where
    pub p : Pass T Note Origin
    pub had : (d : Option (Pass T Note Origin)) → slice_index_or passes n d ≡ Some p
    pub origin : Origin
    pub has_origin : pass_origin p ≡ Some origin
    pub s : Shard
    pub s_is : IsLegal origin (seen p) s
    pub quiet : is_quiet s ≡ true

  -- the pass of shard n has seen it so
  abbrev pub WasSettled : ℕ → ℕ → List (Option (Pass T Note Origin)) → Type 0
  WasSettled n clock passes = (p : Pass T Note Origin) × ((d : Option (Pass T Note Origin)) → slice_index_or passes n d ≡ Some p) × HasSeenSettled clock p

module _ {M S G : Type 0} where
  -- where one of so many sessions was begun, walker 0 has seen each shard settled; and what the sessions' walkers made of them has stamps past that
  pub record AreDrained (sh : Shards M S G) (sessions : ℕ) (walkers : List (Walker M S G)) (went : ℕ → Went) : Type 0 where
    pub clock : ℕ
    pub settled : (k : ℕ) (cause : Option StopCause) → k < sessions → went k ≡ Begun cause → (n : ℕ) (d : Walker M S G) → n < length sh.locks.items → WasSettled n clock (slice_index_or walkers 0 d).passes.items
    pub later : (k : ℕ) (d : Walker M S G) → k < sessions → AllByRecursion (λ e. clock < (e.1).stamp) (session_entries (kept (slice_index_or walkers (suc k) d).passes.items))

-- ---- looks, which make no entry

module _ {T : Type 0} where
  -- each pass has seen what it had seen before, and perhaps more; what the walker keeps is the same
  pub record SeesOn (before after : List (Option (Pass T Note Origin))) : Type 0 where
    pub kept_is : kept after ≡ kept before
    pub each :
        (n : ℕ) (p : Pass T Note Origin) → ((d : Option (Pass T Note Origin)) → slice_index_or before n d ≡ Some p)
        → (q : Pass T Note Origin) × ((d : Option (Pass T Note Origin)) → slice_index_or after n d ≡ Some q) × (pass_origin q ≡ pass_origin p) × StartsWith (seen q) (seen p)

module _ {M S G : Type 0} where
  -- a walker looked, and did nothing else
  pub record HasLooked (sh : Shards M S G) (before after : Walker M S G) : Type 0 where
    pub number_is : after.number ≡ before.number
    pub clock_is : after.clock ≡ before.clock
    pub serial_is : after.serial ≡ before.serial
    pub sees : SeesOn before.passes.items after.passes.items
    pub rises : last_seen before.passes.items ≤ last_seen after.passes.items
    pub rest : (number : ℕ) → IsAtRest sh number before → IsAtRest sh number after

  -- each of them did
  pub record HaveLooked (sh : Shards M S G) (before after : List (Walker M S G)) : Type 0 where
    pub count : length after ≡ length before
    pub each : (k : ℕ) (d : Walker M S G) → HasLooked sh (slice_index_or before k d) (slice_index_or after k d)

  -- and has seen each shard quiet, after all that its pass has seen
  abbrev pub SeeQuiet : Shards M S G → List (Walker M S G) → Type 0
  SeeQuiet sh walkers = (k n : ℕ) (d : Walker M S G) → k < length walkers → n < length sh.locks.items → QuietAt n (slice_index_or walkers k d).passes.items

  -- walker 0 was the first, and is the second after a drain that ended so
  pub record HasDrained (sh : Shards M S G) (before after : Walker M S G) (end : End) : Type 0 where
    pub rest : IsAtRest sh 0 after
    pub stays : (n clock : ℕ) → WasSettled n clock before.passes.items → WasSettled n clock after.passes.items
    pub dated : IsDated before.clock before.passes.items after.clock after.passes.items
    pub serial : after.serial ≡ before.serial
    pub worn : (at : ℕ) → end ≡ Err (StopWorn at) → (at ≡ 2 ^ 48) × (2 ^ 48 - 1 ≤ after.clock)

-- a drain ended as stamps were wanting
abbrev pub IsWornDrain : DrainError → Type 0
IsWornDrain e = (at : ℕ) × (e ≡ Worn at)
