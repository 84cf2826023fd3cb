use Rattle.protocol_laws.proofs.LogOnlyGrows.{log_only_grows}
use Rattle.protocol_laws.proofs.events.log_only_grows.Goals as goal

pub returns : goal.returns
returns c = log_only_grows
