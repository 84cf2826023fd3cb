-- Walkers before their first turn.
use Rattle.std.specs.Prelude.{◌≡◌, ℕ}
use Rattle.cluster_turns.specs.declared.shards.Shards.{Shards}
use Rattle.cluster_turns.specs.declared.shards.Walker.{Walker}
use Rattle.cluster_turns.specs.Walkers.{IsWalker, AreNewPasses, founds_of}

module _ {M S G : Type 0} where
  -- the walker of this number, with a new pass of each lock; its clock is the first, and it has begun no transaction
  pub record IsNewWalker (sh : Shards M S G) (number first : ℕ) (w : Walker M S G) : Type 0 where
    pub walker : IsWalker sh w
    pub number_is : w.number ≡ number
    pub clock_is : w.clock ≡ first
    pub none_begun : w.serial ≡ 0
    pub new : AreNewPasses sh.splits (founds_of sh) sh.locks.items number w.passes.items
