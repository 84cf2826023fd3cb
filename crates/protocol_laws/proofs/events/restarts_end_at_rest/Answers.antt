use Rattle.protocol_laws.proofs.RestartsEndAtRest.{restarts_end_at_rest}
use Rattle.protocol_laws.proofs.events.restarts_end_at_rest.Goals as goal

pub returns : goal.returns
returns c = restarts_end_at_rest
