-- The walkers of a cluster between the calls of their sessions.
use Rattle.std.specs.Prelude.{◌≡◌, ℕ, ◌<◌, List, length, slice_index_or, None}
use Rattle.cluster_turns.specs.declared.shards.Shards.{Shards}
use Rattle.cluster_turns.specs.declared.shards.Walker.{Walker}
use Rattle.cluster_turns.specs.Walkers.{IsWalker}
use Rattle.cluster_closing.specs.Landed.{HasLanded}
use Rattle.cluster_closing.specs.Held.{HoldsNone}
use Rattle.cluster_opening.specs.Made.{IsNewWalker}
use Rattle.session_api.specs.declared.progress.Progress.{Progress}
use Rattle.session_api.specs.Progresses.{active_tx}
use Rattle.session_api.specs.Savepoints.{Saved}
use Rattle.session_api.specs.Standing.{Holds, IsAtRest}

module _ {M S G : Type 0} where
  -- each is new, and its number is its place
  abbrev pub AreNew : Shards M S G → ℕ → List (Walker M S G) → Type 0
  AreNew sh first walkers = (k : ℕ) (d : Walker M S G) → k < length walkers → IsNewWalker sh k first (slice_index_or walkers k d)

  -- a walker of this number that has the gate and the disk of no shard
  pub record IsAtHome (sh : Shards M S G) (number : ℕ) (w : Walker M S G) : Type 0 where
    pub walker : IsWalker sh w
    pub number_is : w.number ≡ number
    pub landed : HasLanded w.number w.passes.items
    pub disks : HoldsNone w.number w.passes.items

  -- each at the place of its number
  abbrev pub AreAtHome : Shards M S G → List (Walker M S G) → Type 0
  AreAtHome sh walkers = (k : ℕ) (d : Walker M S G) → k < length walkers → IsAtHome sh k (slice_index_or walkers k d)

  -- and none ever took a disk
  abbrev pub AreAtRest : Shards M S G → List (Walker M S G) → Type 0
  AreAtRest sh walkers = (k : ℕ) (d : Walker M S G) → k < length walkers → IsAtRest sh k (slice_index_or walkers k d)

  -- a session on these shards of the walker of this number, none of whose transactions is active
  pub record IsSeated (sh : Shards M S G) (number : ℕ) (shards : Shards M S G) (w : Walker M S G) (s : Progress) (saves : List ℕ) : Type 0 where
    pub on : shards ≡ sh
    pub number_is : w.number ≡ number
    pub holds : Holds shards w s
    pub saved : Saved s saves
    pub idle : active_tx s ≡ None
