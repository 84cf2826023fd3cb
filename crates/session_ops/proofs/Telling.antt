-- What callers are told of the answer at a key.
use Rattle.std.proofs.Common.{◌≡◌, ◌∙◌, refl, ap, ℕ, Result, Ok, Err}
use Rattle.clv_base.specs.declared.ops.Op.{Op}
use Rattle.clv_base.specs.declared.ops.Answer.{Answer}
use Rattle.clv_base.specs.declared.ops.Answer.TheVariants.{Value, Pairs, Added}
use Rattle.clv_base.specs.Sessions.{SessionState}
use Rattle.cluster_turns.specs.declared.shards.Shards.{Shards}
use Rattle.cluster_turns.specs.declared.shards.Walker.{Walker}
use Rattle.session_ops.specs.declared.operating.OpError.{OpError}
use Rattle.session_ops.specs.declared.operating.OpError.TheVariants as op
use Rattle.session_ops.specs.Parts.{PointTold, has_died, value_in, added_in, whole_in}

-- whoever is told of the whole answer can tell a part of it
pub told_by :
    {M S G A : Type 0} (tells : Result Answer OpError → Result A OpError) (sh : Shards M S G) (w v : Walker M S G) (p q : SessionState) (o : Op) (key : ℕ) (r : Result Answer OpError) (s : Result A OpError) → PointTold whole_in sh w p o key r v q
    → s ≡ tells r → PointTold tells sh w p o key s v q
told_by tells sh w v p q o key r s t is = record { answer = t.answer; is = is ∙ ap tells t.is; turns = t.turns; place = t.place }

-- and of its death
pub value_died : (r : Result Answer OpError) → has_died (value_in r) ≡ has_died r
value_died (Ok (Value value)) = refl
value_died (Ok (Pairs pairs)) = refl
value_died (Ok (Added found)) = refl
value_died (Err (op.Aborted cause)) = refl
value_died (Err (op.Down m)) = refl
value_died (Err (op.Worn at)) = refl
value_died (Err op.Memory) = refl

pub added_died : (r : Result Answer OpError) → has_died (added_in r) ≡ has_died r
added_died (Ok (Value value)) = refl
added_died (Ok (Pairs pairs)) = refl
added_died (Ok (Added found)) = refl
added_died (Err (op.Aborted cause)) = refl
added_died (Err (op.Down m)) = refl
added_died (Err (op.Worn at)) = refl
added_died (Err op.Memory) = refl
