use Rattle.cluster_opening.proofs.Unused.{unused}
use Rattle.cluster_opening.proofs.durable.restarts_are_durable.Goals as goal

pub returns : goal.returns
returns g c = λ o marks capacity s gate. unused g.G.Gate.is_shut g.G.Gate.faults g.G.Gate.shard g.G.Gate.logs o marks capacity s gate
