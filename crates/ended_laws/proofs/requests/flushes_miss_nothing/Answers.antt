use Rattle.ended_laws.proofs.Spent.{flushes_miss_nothing}
use Rattle.ended_laws.proofs.requests.flushes_miss_nothing.Goals as goal

pub returns : goal.returns
returns c = flushes_miss_nothing
