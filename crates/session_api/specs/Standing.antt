-- A session of a cluster, as whoever runs a script sees it.
use Rattle.std.specs.Prelude.{◌≡◌, ℕ, IsTrue, List, Option, Some, None}
use Rattle.clv_base.specs.declared.names.Birth.{Birth}
use Rattle.clv_base.specs.declared.names.Point.{Point}
use Rattle.clv_base.specs.Sessions.{SessionState}
use Rattle.clv_base.specs.Shards.{are_splits}
use Rattle.cluster_turns.specs.declared.shards.Shards.{Shards}
use Rattle.cluster_turns.specs.declared.shards.Walker.{Walker}
use Rattle.cluster_turns.specs.Walkers.{IsWalker}
use Rattle.cluster_closing.specs.Landed.{HasLanded}
use Rattle.cluster_closing.specs.Held.{HoldsNone, FetchedNone}
use Rattle.session_api.specs.declared.progress.Progress.{Progress}
use Rattle.session_api.specs.declared.progress.Progress.TheVariants as progress
use Rattle.session_api.specs.Sessions.{IsSession}
use Rattle.session_api.specs.Savepoints.{Saved, LeadRising, leads_of}
use Rattle.session_api.specs.Seeing.{seen_as, is_active}
use Rattle.script_lang.specs.Savepoints.{Savepoints, AreNumbered}
use Rattle.script_runs.specs.Seen.{Standing, Idle, Asked, Seen}

-- the active transaction, whose birth is this; each that a session begins has one
abbrev pub active_as : SessionState → Option Birth → Standing
active_as p None = Idle None
active_as p (Some birth) = is_active p birth

-- how its last transaction stands
abbrev pub standing_of : Progress → Standing
standing_of progress.Idle = Idle None
standing_of (progress.Active p) = active_as p p.birth
standing_of (progress.Worn p) = active_as p p.birth
standing_of (progress.Undone p n upto) = active_as p p.birth
standing_of (progress.Asked p home stamp) = Asked
standing_of (progress.Ended p) = Idle p.birth

module _ {M S G : Type 0} where
  abbrev pub seen_in : Shards M S G → Walker M S G → Point → Progress → Seen
  seen_in sh w asked s = seen_as sh w asked (standing_of s)

  -- it is a session between two calls, and its walker never took a disk, and has none
  pub record Holds (sh : Shards M S G) (w : Walker M S G) (s : Progress) : Type 0 where
    pub session : IsSession sh w s
    pub splits : IsTrue (are_splits sh.splits)
    pub fetched : FetchedNone w.passes.items
    pub disks : HoldsNone w.number w.passes.items

  -- so it is, and its savepoints stand, and those of the script that drives it, whose numbers rise, and which lead no less far the later they were kept
  pub record HoldsSaves (sh : Shards M S G) (w : Walker M S G) (s : Progress) (saves : List ℕ) (script : Savepoints) : Type 0 where
    pub holds : Holds sh w s
    pub saved : Saved s saves
    pub leads : Saved s (leads_of script.standing)
    pub numbered : AreNumbered 0 script.standing script.kept
    pub rise : LeadRising (leads_of script.standing)

  -- a walker between two calls: it has the gate of no shard, never took a disk, and has none
  pub record IsAtRest (sh : Shards M S G) (number : ℕ) (w : Walker M S G) : Type 0 where
    pub walker : IsWalker sh w
    pub number_is : w.number ≡ number
    pub landed : HasLanded w.number w.passes.items
    pub fetched : FetchedNone w.passes.items
    pub disks : HoldsNone w.number w.passes.items
