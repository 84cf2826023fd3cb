use Rattle.protocol_laws.proofs.SessionsKeepOrder.{sessions_keep_order}
use Rattle.protocol_laws.proofs.sessions.sessions_keep_order.Goals as goal

pub returns : goal.returns
returns c = sessions_keep_order
