use Rattle.clv_base.proofs.Settling.{each_leaves_less}
use Rattle.protocol_laws.proofs.events.each_step_leaves_less.Goals as goal

pub returns : goal.returns
returns c = each_leaves_less
