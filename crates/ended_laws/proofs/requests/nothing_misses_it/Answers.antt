use Rattle.ended_laws.proofs.Spent.{nothing_misses_it}
use Rattle.ended_laws.proofs.requests.nothing_misses_it.Goals as goal

pub returns : goal.returns
returns c = nothing_misses_it
