-- Where drops leave no part of a transaction's birth.
use Rattle.std.specs.Prelude.{◌≡◌, ◌⊎◌, ℕ, ◌≤◌, ◌^◌, ◌-◌, length, Option, Some, Result}
use Rattle.clv_base.specs.declared.names.Birth.{Birth}
use Rattle.clv_base.specs.Sessions.{SessionState}
use Rattle.cluster_turns.specs.declared.shards.Shards.{Shards}
use Rattle.cluster_turns.specs.declared.shards.Walker.{Walker}
use Rattle.cluster_turns.specs.declared.shards.WornClock.{WornClock}
use Rattle.cluster_turns.specs.Walkers.{IsWalker}
use Rattle.cluster_turns.specs.Unborn.{AllUnborn}
use Rattle.session_ops.specs.Standing.{HasBirth, IsGoneAt}
use Rattle.session_ops.specs.Dropped.{Dropping, IsEnding}

module _ {M S G : Type 0} where
  -- no transaction has an active part of the birth, as the walker has seen the shards; or the clock is at its end
  abbrev pub UnbornOrWorn : Walker M S G → SessionState → Type 0
  UnbornOrWorn w p = (2 ^ 48 - 1 ≤ w.clock) ⊎ ((birth : Birth) → p.birth ≡ Some birth → AllUnborn birth w.passes.items)

  -- the session's last transaction p is ending, and has no part any more
  pub record IsEnded (sh : Shards M S G) (w : Walker M S G) (p : SessionState) : Type 0 where
    pub ending : IsEnding sh w p
    pub unborn : UnbornOrWorn w p

  -- on a shard that is left out it has none
  abbrev pub IsGoneBut : Option ℕ → Walker M S G → SessionState → Type 0
  IsGoneBut except w p = (n : ℕ) → except ≡ Some n → IsGoneAt n w p

-- after drops of all parts but on a shard where it has none, there is none
abbrev pub DropsUnbear : (M S G : Type 0) → Type 0
DropsUnbear M S G =
    (sh : Shards M S G) (w v : Walker M S G) (p : SessionState) (except : Option ℕ) (r : Result Unit WornClock) → IsWalker sh v → HasBirth w p → IsGoneBut except w p
    → Dropping w.number w.clock w.passes.items p.tx p.touched except 0 (length sh.locks.items) r v.clock v.passes.items → UnbornOrWorn v p
