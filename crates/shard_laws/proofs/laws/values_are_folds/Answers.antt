use Rattle.shard_laws.proofs.AnswersAndMap.{values_are_folds}
use Rattle.shard_laws.proofs.laws.values_are_folds.Goals as goal

pub returns : goal.returns
returns c = values_are_folds
