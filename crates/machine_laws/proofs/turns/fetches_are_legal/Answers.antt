use Rattle.machine_laws.proofs.Legal.{legal_fetched}
use Rattle.machine_laws.proofs.turns.fetches_are_legal.Goals as goal

pub returns : goal.returns
returns c = legal_fetched
