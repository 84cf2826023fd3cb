use Rattle.fate_laws.proofs.QuietShardsAreTheirMaps.{quiet_shards_are_their_maps}
use Rattle.fate_laws.proofs.each_shard.quiet_shards_are_their_maps.Goals as goal

pub returns : goal.returns
returns c = quiet_shards_are_their_maps
