use Rattle.headline_laws.proofs.OneShard.NothingIsInDoubt.{nothing_in_doubt}
use Rattle.headline_laws.proofs.one_shard.nothing_is_in_doubt.Goals as goal

pub returns : goal.returns
returns c = nothing_in_doubt
