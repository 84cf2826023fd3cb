use Rattle.log_checkpoint.proofs.Keeping.{map_kept}
use Rattle.log_checkpoint.proofs.laws.checkpoints_keep_the_map.Goals as goal

pub returns : goal.returns
returns c = map_kept
