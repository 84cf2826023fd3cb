use Rattle.log_standby.proofs.FeedingLaws.{are_fed}
use Rattle.log_standby.proofs.laws.streams_are_fed.Goals as goal

pub returns : goal.returns
returns c = λ old new shard piece lt same a. are_fed old new shard piece lt same a
