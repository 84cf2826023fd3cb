-- What another try of a transaction needs, and what it tells.
use Rattle.std.specs.Prelude.{◌≡◌, suc, ◌<◌, ◌≤◌, ◌^◌, ◌-◌, true, Some, Result, Ok, Err}
use Rattle.clv_base.specs.declared.names.Birth.{Birth}
use Rattle.clv_base.specs.Sessions.{SessionState, begun, may_drop}
use Rattle.cluster_turns.specs.declared.shards.Shards.{Shards}
use Rattle.cluster_turns.specs.declared.shards.Walker.{Walker}
use Rattle.cluster_turns.specs.declared.shards.WornClock.{WornClock}
use Rattle.cluster_turns.specs.States.{GoesOnBy}
use Rattle.cluster_turns.specs.Unborn.{AllUnborn}
use Rattle.session_ops.specs.Standing.{IsReady, HasBirth, IsActive}
use Rattle.session_ops.specs.Unbearing.{UnbornOrWorn}

module _ {M S G : Type 0} where
  -- the session goes on by the transaction p, which may have no operation any more and made no request that stands, or touched nothing; its birth is unborn
  pub record IsRetriable (sh : Shards M S G) (w : Walker M S G) (p : SessionState) : Type 0 where
    pub state : SessionState
    pub ready : IsReady sh w state
    pub goes : GoesOnBy state p
    pub may : may_drop p.phase ≡ true
    pub born : HasBirth w p
    pub unborn : UnbornOrWorn w p

  -- the next transaction p: its name has the next serial, its birth is the last one's; it may have operations. The clock is raised by one, the passes are as
  -- before
  pub record Retried (sh : Shards M S G) (before after : Walker M S G) (last p : SessionState) : Type 0 where
    pub birth : Birth
    pub birth_is : last.birth ≡ Some birth
    pub is : (t : SessionState) → p ≡ begun t (record { run = sh.run; session = before.number; serial = suc before.serial }) birth
    pub walker_is : after ≡ record before { clock = suc before.clock; serial = suc before.serial }
    pub active : IsActive sh after p
    pub unborn : AllUnborn birth after.passes.items

  -- worn exactly where the clock is at its end
  abbrev pub RetriedBy : {A : Type 0} → (A → SessionState) → Shards M S G → Walker M S G → SessionState → Result A WornClock → Walker M S G → Type 0
  RetriedBy place sh before last (Ok a) after = (before.clock < 2 ^ 48 - 1) × Retried sh before after last (place a)
  RetriedBy place sh before last (Err worn) after = (worn.at ≡ 2 ^ 48) × (2 ^ 48 - 1 ≤ before.clock) × (after ≡ before)
