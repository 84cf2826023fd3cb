use Rattle.std.proofs.Common.{arith}
use Rattle.cluster_turns.specs.Walkers.{founds_of}
use Rattle.cluster_turns.proofs.Beginning.{new_walker}
use Rattle.cluster_turns.proofs.shards.Walker.new.Goals as goal

pub returns-clause-walker : goal.returns-clause-walker
returns-clause-walker g c = let sh = c.args.shards.now in record {
  count = c.requires.shards.0;
  run = c.requires.shards.1;
  walks = new_walker sh.splits (founds_of sh) sh.locks.items c.args.number c.args.clock c.args.passes.items c.requires.passes;
  serials = omega arith;
}
