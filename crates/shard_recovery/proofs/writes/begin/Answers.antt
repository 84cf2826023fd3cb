use Rattle.std.proofs.Common.{◌++◌, ◌∷◌, [], Some, ap, ◌∙◌, arith}
use Rattle.shard_recovery.specs.Winning.{set_by}
use Rattle.shard_recovery.proofs.Sorted.{begun_more}
use Rattle.shard_recovery.proofs.writes.begin.Goals as goal

pub loop-place-preserved : goal.loop-place-preserved
loop-place-preserved c =
    begun_more c.args.base.now c.loop-place.place c.index-base-place.result c.loop-place.writes.items c.push.new.self.items
    (omega arith) (omega arith) c.index-base-place.is c.loop-place.invariant
    (c.in_ok-push.ensures.items ∙ ap (λ l. c.loop-place.writes.items ++ record { key = (c.index-base-place.result).0; left = l } ∷ []) (c.left_by.ensures ∙ ap (λ v. set_by (Some v)) c.copy.ensures))
