use Rattle.log_standby.proofs.FeedingLaws.{cuts}
use Rattle.log_standby.proofs.laws.cuts_change_nothing.Goals as goal

pub returns : goal.returns
returns c = λ old between new shard some others lt same a b. cuts old between new shard some others lt same a b
