use Rattle.shard_laws.proofs.QuietIsSettled.{quiet_is_settled}
use Rattle.shard_laws.proofs.laws.quiet_is_settled.Goals as goal

pub returns : goal.returns
returns c = quiet_is_settled
