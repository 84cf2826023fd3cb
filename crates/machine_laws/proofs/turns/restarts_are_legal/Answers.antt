use Rattle.machine_laws.proofs.Legal.{legal_restart}
use Rattle.machine_laws.proofs.turns.restarts_are_legal.Goals as goal

pub returns : goal.returns
returns c = legal_restart
