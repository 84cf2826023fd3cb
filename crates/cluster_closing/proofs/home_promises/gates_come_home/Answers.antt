use Rattle.cluster_closing.proofs.EndHoming.{gates_come_home}
use Rattle.cluster_closing.proofs.home_promises.gates_come_home.Goals as goal

pub returns : goal.returns
returns g c = gates_come_home _ _ g.G.Gate.is_shut g.G.Gate.faults g.G.Gate.shard g.G.Gate.logs
