use Rattle.machine_laws.proofs.Beginning.{sound_opened}
use Rattle.machine_laws.proofs.turns.openings_are_sound.Goals as goal

pub returns : goal.returns
returns g c = λ o capacity a. sound_opened g.G.Gate.is_shut g.G.Gate.faults g.G.Gate.shard g.G.Gate.logs o capacity a
