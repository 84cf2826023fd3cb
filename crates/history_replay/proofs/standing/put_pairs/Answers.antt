use Rattle.std.proofs.Common.{Some, ap, ◌∙◌, arith}
use Rattle.clv_base.specs.Maps.{map_set}
use Rattle.history_replay.proofs.Folding.{pairs_step}
use Rattle.history_replay.proofs.standing.put_pairs.Goals as goal

pub loop-place-preserved : goal.loop-place-preserved
loop-place-preserved c =
    pairs_step c.args.base.now c.loop-place.place c.index-base-place.result c.args.pairs.now c.loop-place.pairs c.set_to.new.self
    (omega arith) (omega arith) c.index-base-place.is c.loop-place.invariant
    (c.in_ok-set_to.ensures.set ∙ ap (λ v. map_set (c.index-base-place.result).0 (Some v) c.loop-place.pairs) c.copy.ensures)
