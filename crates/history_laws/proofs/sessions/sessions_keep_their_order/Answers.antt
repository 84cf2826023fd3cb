use Rattle.history_laws.proofs.SessionsKeepTheirOrder.{sessions_keep_their_order}
use Rattle.history_laws.proofs.sessions.sessions_keep_their_order.Goals as goal

pub returns : goal.returns
returns c = sessions_keep_their_order
