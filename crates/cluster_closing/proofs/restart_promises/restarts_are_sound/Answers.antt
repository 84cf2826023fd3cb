use Rattle.cluster_closing.proofs.EndRestarting.{sound_restarted}
use Rattle.cluster_closing.proofs.restart_promises.restarts_are_sound.Goals as goal

pub returns : goal.returns
returns g c = sound_restarted g.G.Gate.is_shut g.G.Gate.faults g.G.Gate.shard g.G.Gate.logs
