use Rattle.clv_base.proofs.Settling.{nothing_is_left}
use Rattle.protocol_laws.proofs.events.nothing_is_left_due.Goals as goal

pub returns : goal.returns
returns c = nothing_is_left
