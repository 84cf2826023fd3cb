use Rattle.shard_laws.proofs.AnswersAndMap.{answers_and_map}
use Rattle.shard_laws.proofs.laws.answers_and_map.Goals as goal

pub returns : goal.returns
returns c = answers_and_map
