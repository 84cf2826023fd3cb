-- A cluster that was opened over the disks of a house, and closed without a disk fetched.
use Rattle.std.specs.Prelude.{◌≡◌, ℕ, ◌<◌, ◌≤◌, Bool, true, List, [], map, length, slice_index_or, Option, vec_len}
use Rattle.clv_base.specs.declared.logs.LogRecord.{LogRecord}
use Rattle.clv_base.specs.Shards.{shard_count}
use Rattle.clv_base.specs.LogRules.{log_of}
use Rattle.clv_base.specs.State.{Shard}
use Rattle.clv_base.specs.Journals.{History, MayLeave}
use Rattle.io_model.specs.Sides.{Stories}
use Rattle.history_replay.specs.Entries.{Kept, entries_of}
use Rattle.journal_laws.specs.Gathered.{MakesHistory}
use Rattle.machine_laws.specs.Notes.{notes_of}
use Rattle.machine_laws.specs.Homes.{never_stops, IsLegal}
use Rattle.cluster_turns.specs.declared.home.Home.{Home}
use Rattle.cluster_turns.specs.declared.shards.Shards.{Shards}
use Rattle.cluster_turns.specs.declared.shards.Walker.{Walker}
use Rattle.cluster_turns.specs.Walkers.{founds_of}
use Rattle.cluster_closing.specs.Held.{never_restarts}
use Rattle.cluster_closing.specs.Legal.{state_at, views_of}
use Rattle.cluster_closing.specs.Ending.{ClosedAt}
use Rattle.cluster_opening.specs.Houses.{WentOut}
use Rattle.cluster_runs.specs.Begun.{AreLocked}
use Rattle.cluster_closing.specs.Closing.{IsLowestDown, IsBack}

-- the entries of the walker of each number
abbrev pub walked_by : {M S G : Type 0} → List (Walker M S G) → ℕ → History
walked_by walkers w = entries_of (views_of walkers w)

module _ {M S G : Type 0} (D : Type 0) (shard : M → Shard) where
  -- the state of each shard as it came out of its lock
  abbrev pub end_of : Shards M S G → List (Home M S G) → ℕ → Shard
  end_of sh homes = state_at (λ h. shard h.machine) (founds_of sh) homes

  -- what a close tells that was given no fetched disk, of a cluster none of whose walkers ever took one. D is what a disk is
  pub record IsClosed (sh : Shards M S G) (walkers : List (Walker M S G)) (homes : List (Home M S G)) (kept : Kept) (down : Option ℕ) (counts counts_now : ℕ → ℕ) (out out_now : ℕ → Bool × Bool) (before now : ℕ → Option Stories) : Type 0 where
    pub len : length homes ≡ vec_len sh.locks
    pub shard_is : (n : ℕ) (d : Home M S G) → n < vec_len sh.locks → (shard (slice_index_or homes n d).machine).shard ≡ n
    pub noted :
        (n : ℕ) (d : Home M S G) → n < vec_len sh.locks
        → IsLegal (slice_index_or homes n d).origin (notes_of (shard (slice_index_or homes n d).machine).journal (slice_index_or homes n d).marks.items) (shard (slice_index_or homes n d).machine)
    pub passes : (k : ℕ) (d : Walker M S G) → k < length walkers → length (slice_index_or walkers k d).passes.items ≡ length sh.locks.items
    pub seen :
        (n : ℕ) (d : Home M S G) → n < vec_len sh.locks
        → ClosedAt walkers n (slice_index_or homes n d).origin (notes_of (shard (slice_index_or homes n d).machine).journal (slice_index_or homes n d).marks.items)
    pub journals_are : kept.journals ≡ map (λ h. (shard h.machine).journal) homes
    pub founds_are : kept.found ≡ founds_of sh
    pub lowest_down : IsLowestDown (λ h. (shard h.machine).is_up) homes down
    pub no_stop : (n : ℕ) (d : Home M S G) → n < vec_len sh.locks → never_stops (shard (slice_index_or homes n d).machine).journal ≡ true
    pub no_restart : (n : ℕ) (d : Home M S G) → n < vec_len sh.locks → never_restarts (shard (slice_index_or homes n d).machine).journal ≡ true
    pub legal :
        (after : List (List LogRecord)) → length after ≡ shard_count sh.splits → ((n : ℕ) → n < shard_count sh.splits → MayLeave (end_of sh homes n) (log_of after n))
        → MakesHistory sh.splits (founds_of sh) after kept.journals (end_of sh homes) (walked_by walkers)
    pub disks : (n : ℕ) (d : Home M S G) → n < vec_len sh.locks → IsBack {D = D} (shard (slice_index_or homes n d).machine) n (record { splits = sh.splits }) [] (counts n) (counts_now n) (out_now n) (now n)
    pub others : (n : ℕ) → vec_len sh.locks ≤ n → (counts_now n ≡ counts n) × (out_now n ≡ out n) × (now n ≡ before n)

  -- the cluster was opened over the disks of a house, and closed so; between both the house stayed as it was
  pub record IsClosedRun (sh : Shards M S G) (walkers : List (Walker M S G)) (homes : List (Home M S G)) (kept : Kept) (down : Option ℕ) (counts counts_now : ℕ → ℕ) (out out_now : ℕ → Bool × Bool) (before now : ℕ → Option Stories) : Type 0 where
    pub passes : ℕ
    pub counts_open : ℕ → ℕ
    pub out_open : ℕ → Bool × Bool
    pub open_now : ℕ → Option Stories
    pub begun : AreLocked passes before sh
    pub went_out : WentOut (shard_count sh.splits) counts counts_open out out_open before open_now
    pub closed : IsClosed sh walkers homes kept down counts_open counts_now out_open out_now open_now now
