use Rattle.checkpoint_taking.proofs.Maps.{base_rises}
use Rattle.checkpoint_taking.proofs.taking.put_base.Goals as goal

pub committed_pairs-requires : goal.committed_pairs-requires
committed_pairs-requires c = base_rises c.args.shard c.args.log.now c.requires
