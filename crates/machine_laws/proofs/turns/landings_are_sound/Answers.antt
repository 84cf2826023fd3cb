use Rattle.machine_laws.proofs.Departing.{sound_lands}
use Rattle.machine_laws.proofs.turns.landings_are_sound.Goals as goal

pub returns : goal.returns
returns g c = λ o marks capacity s clock w upto at_departure pushed out t x gate a. sound_lands g.G.Gate.is_shut g.G.Gate.faults g.G.Gate.shard g.G.Gate.logs o marks capacity s gate clock w upto at_departure pushed out t x a
