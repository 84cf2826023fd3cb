use Rattle.std.proofs.Common.{◌∙◌, arith}
use Rattle.io_model.specs.Sides.{sides_out, sides_told}
use Rattle.cluster_opening.specs.Making.{IsMade, Spares}
use Rattle.cluster_opening.proofs.Testing.{inside_still, told_still, counts_still, told_up_to}
use Rattle.cluster_opening.proofs.logs_making.make_each.Goals as goal

pub loop-shard-preserved : goal.loop-shard-preserved
loop-shard-preserved g c =
    let H = g.H.House in let h = c.args.house.now in let h1 = c.loop-shard.house in let h2 = c.make_one.new.house in
    let k = c.loop-shard.shard in let inv = c.loop-shard.invariant in let one = c.in-Ok.ensures in
    let s = sides_told (H.story h) in let s1 = sides_told (H.story h1) in let s2 = sides_told (H.story h2) in
    let first = inv.later k (omega arith) in record {
      made = told_up_to k (λ n. IsMade c.loop-shard.header.1.0 n) s s1 s2 inv.made first one.made (λ n other. (one.others n other).2);
      spares = told_still k Spares s s1 s2 inv.spares first one.spares (λ n other. (one.others n other).2);
      inside = inside_still k (sides_out (H.is_out h1)) (sides_out (H.is_out h2)) inv.inside one.back (λ n other. (one.others n other).1);
      counts = counts_still k (H.faults h) (H.faults h1) (H.faults h2) inv.counts one.cause (λ n other. (one.others n other).0);
      later = λ n low. (one.others n (λ is. absurd (omega (arith, is, low)))).2 ∙ inv.later n (omega (arith, low));
      splits = inv.splits;
    }
