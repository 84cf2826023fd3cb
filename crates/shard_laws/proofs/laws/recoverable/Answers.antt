use Rattle.shard_laws.proofs.AnswersAndMap.{recoverable}
use Rattle.shard_laws.proofs.laws.recoverable.Goals as goal

pub returns : goal.returns
returns c = recoverable
