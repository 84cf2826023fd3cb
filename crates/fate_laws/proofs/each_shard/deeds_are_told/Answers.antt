use Rattle.fate_laws.proofs.DeedsAreTold.{deeds_are_told}
use Rattle.fate_laws.proofs.each_shard.deeds_are_told.Goals as goal

pub returns : goal.returns
returns c = deeds_are_told
