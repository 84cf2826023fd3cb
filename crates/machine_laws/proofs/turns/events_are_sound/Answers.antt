use Rattle.machine_laws.proofs.Keeping.{sound_step}
use Rattle.machine_laws.proofs.turns.events_are_sound.Goals as goal

pub returns : goal.returns
returns g c = λ o marks capacity s clock w e r t x gate. sound_step g.G.Gate.is_shut g.G.Gate.faults g.G.Gate.shard g.G.Gate.logs o marks capacity s gate clock w e r t x
