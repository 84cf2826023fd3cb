use Rattle.std.proofs.Common.{arith}
use Rattle.cluster_closing.proofs.ending.take_pass.Goals as goal
use Rattle.law_base.proofs.Lists.{some_inside as inside}

pub index_mut-requires : goal.index_mut-requires
index_mut-requires g c = let h = inside c.args.walker.now.passes.items c.args.n c.requires.0 c.requires.1 in let ok = c.args.walker.now.passes.ok in omega arith
