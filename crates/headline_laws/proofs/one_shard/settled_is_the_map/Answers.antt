use Rattle.headline_laws.proofs.OneShard.LawsOfOneShard.{settled_is_the_map}
use Rattle.headline_laws.proofs.one_shard.settled_is_the_map.Goals as goal

pub returns : goal.returns
returns c = settled_is_the_map
