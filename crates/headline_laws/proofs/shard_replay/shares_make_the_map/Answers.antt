use Rattle.headline_laws.proofs.SharesMakeTheMap.{shares_make_the_map}
use Rattle.headline_laws.proofs.shard_replay.shares_make_the_map.Goals as goal

pub returns : goal.returns
returns c = shares_make_the_map
