use Rattle.std.proofs.Common.{◌≡◌, ◌∙◌, sym, ap, arith, ◌+◌}
use Rattle.std.proofs.lemmas.Bool.{both_ways}
use Rattle.session_ops.specs.Dropped.{is_to_drop}
use Rattle.session_ops.proofs.Parting.{nothing_dropped}
use Rattle.session_ops.proofs.leaving.drop_on.Goals as goal

pub returns-else-is_part-clause-drops : goal.returns-else-is_part-clause-drops
returns-else-is_part-clause-drops g c = let w = c.args.walker.now in let p = c.args.place.now in let n = c.args.shard in
    nothing_dropped w.number w.clock w.passes.items p.tx p.touched c.args.except n (n + 1) tt
    (λ k l u h. both_ways (is_to_drop p.touched c.args.except n) (sym c.if-is_part.ensures) (ap (is_to_drop p.touched c.args.except) (let same : n ≡ k = omega arith in same) ∙ h))
