use Rattle.headline_laws.proofs.RequestsNameTheirShards.{requests_name_their_shards}
use Rattle.headline_laws.proofs.sessions.requests_name_their_shards.Goals as goal

pub returns : goal.returns
returns c = requests_name_their_shards
