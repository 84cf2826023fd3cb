-- Which transactions may be tried again.
use Rattle.std.specs.Prelude.{◌⊎◌, length, None, Result}
use Rattle.clv_base.specs.Sessions.{SessionState}
use Rattle.cluster_turns.specs.declared.shards.Shards.{Shards}
use Rattle.cluster_turns.specs.declared.shards.Walker.{Walker}
use Rattle.cluster_turns.specs.declared.shards.WornClock.{WornClock}
use Rattle.session_ops.specs.Standing.{HasBirth, IsActive}
use Rattle.session_ops.specs.Dropped.{Dropping, IsLeft, IsEnding}
use Rattle.session_ops.specs.Unbearing.{UnbornOrWorn, IsEnded}
use Rattle.session_ops.specs.Retried.{IsRetriable}

-- one that has ended, by an operation, by its request or by its decision
abbrev pub EndedAreRetriable : (M S G : Type 0) → Type 0
EndedAreRetriable M S G = (sh : Shards M S G) (w : Walker M S G) (p : SessionState) → IsEnded sh w p → IsRetriable sh w p

-- one that was aborted without a touch
abbrev pub ActiveAreRetriable : (M S G : Type 0) → Type 0
ActiveAreRetriable M S G = (sh : Shards M S G) (w : Walker M S G) (p : SessionState) → IsActive sh w p → UnbornOrWorn w p → IsRetriable sh w p

-- one whose parts were all dropped, as an abort does, whatever that answered
abbrev pub AbortsAreRetriable : (M S G : Type 0) → Type 0
AbortsAreRetriable M S G =
    (sh : Shards M S G) (w v : Walker M S G) (p q : SessionState) (r : Result Unit WornClock) → HasBirth w p
    → Dropping w.number w.clock w.passes.items p.tx p.touched None 0 (length sh.locks.items) r v.clock v.passes.items → IsLeft p q → IsActive sh v q ⊎ IsEnding sh v q → IsRetriable sh v q
