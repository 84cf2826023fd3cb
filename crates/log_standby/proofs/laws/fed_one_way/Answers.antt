use Rattle.log_standby.proofs.FeedingLaws.{one_way}
use Rattle.log_standby.proofs.laws.fed_one_way.Goals as goal

pub returns : goal.returns
returns c = λ old some others shard piece a b. one_way old some others shard piece a b
