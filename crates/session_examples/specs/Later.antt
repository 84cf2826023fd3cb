-- A session after calls.
use Rattle.std.specs.Prelude.{◌≡◌, ◌++◌}
use Rattle.clv_base.specs.Journals.{History}
use Rattle.cluster_turns.specs.declared.shards.Walker.{Walker}
use Rattle.cluster_turns.specs.Walkers.{kept}
use Rattle.cluster_closing.specs.Held.{HoldsNone, FetchedNone}

module _ {M S G : Type 0} where
  -- the same walker later: it has made some entries more, and if it had no disk, and never took one, that is so still
  pub record IsLater (w v : Walker M S G) : Type 0 where
    pub number_is : v.number ≡ w.number
    pub made : History
    pub kept_is : kept v.passes.items ≡ kept w.passes.items ++ made
    pub fetched : FetchedNone w.passes.items → FetchedNone v.passes.items
    pub disks : HoldsNone w.number w.passes.items → HoldsNone v.number v.passes.items
