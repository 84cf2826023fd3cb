use Rattle.headline_laws.proofs.OneShard.LawsOfOneShard.{predecessors_stand_before}
use Rattle.headline_laws.proofs.one_shard.predecessors_stand_before.Goals as goal

pub returns : goal.returns
returns c = predecessors_stand_before
