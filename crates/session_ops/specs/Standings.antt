-- How a session's last transaction stands, by how far it is.
use Rattle.std.specs.Prelude.{◌≡◌, ◌⊎◌, []}
use Rattle.clv_base.specs.Sessions.{SessionState, Phase, Touching, Ended, Standing, Told, Refused}
use Rattle.cluster_turns.specs.declared.shards.Shards.{Shards}
use Rattle.cluster_turns.specs.declared.shards.Walker.{Walker}
use Rattle.session_ops.specs.Standing.{IsReady, IsActive}
use Rattle.session_ops.specs.Requested.{IsStanding}
use Rattle.session_ops.specs.Dropped.{IsEnding}
use Rattle.session_ops.specs.Unbearing.{IsEnded}

module _ {M S G : Type 0} where
  -- it may have operations; it is over, and has no part any more; its request stands; it was told that it is acknowledged
  abbrev pub StandsAt : Phase → Shards M S G → Walker M S G → SessionState → Type 0
  StandsAt Touching sh w p = IsActive sh w p
  StandsAt Ended sh w p = IsEnded sh w p
  StandsAt (Standing home) sh w p = IsStanding sh w p home
  StandsAt Told sh w p = IsReady sh w p
  StandsAt Refused sh w p = IsEnded sh w p

  abbrev pub StandsAs : Shards M S G → Walker M S G → SessionState → Type 0
  StandsAs sh w p = StandsAt p.phase sh w p

  -- it may have operations, or is ending: no request of it stands
  abbrev pub IsUnasked : Shards M S G → Walker M S G → SessionState → Type 0
  IsUnasked sh w p = IsActive sh w p ⊎ IsEnding sh w p

  -- nothing of it was touched, or it is ending
  abbrev pub IsAborted : Shards M S G → Walker M S G → SessionState → Type 0
  IsAborted sh w p = ((p.touched ≡ []) × IsActive sh w p) ⊎ IsEnding sh w p
