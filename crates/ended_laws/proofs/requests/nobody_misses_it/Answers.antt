use Rattle.ended_laws.proofs.requests.nobody_misses_it.Goals as goal
use Rattle.ended_laws.proofs.Missing.{nobody_misses_it}

pub returns : goal.returns
returns c = nobody_misses_it
