use Rattle.machine_laws.proofs.Begun.{restarts_are_named}
use Rattle.machine_laws.proofs.naming.restarts_are_named.Goals as goal

pub returns : goal.returns
returns c = restarts_are_named
