use Rattle.machine_laws.specs.Homes.{layout_of}
use Rattle.machine_laws.proofs.Leaving.{fits_leaves}
use Rattle.machine_laws.proofs.turns.gates_may_be_left.Goals as goal

pub returns : goal.returns
returns g c = λ o notes s a. fits_leaves o notes s (g.G.Gate.is_shut a) (g.G.Gate.faults a) (g.G.Gate.shard a) (g.G.Gate.logs a (layout_of o))
