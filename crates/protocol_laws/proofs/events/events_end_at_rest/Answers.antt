use Rattle.protocol_laws.proofs.LogOnlyGrows.{events_end_at_rest}
use Rattle.protocol_laws.proofs.events.events_end_at_rest.Goals as goal

pub returns : goal.returns
returns c = events_end_at_rest
