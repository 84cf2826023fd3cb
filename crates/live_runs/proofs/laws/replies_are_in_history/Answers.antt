use Rattle.live_runs.proofs.Replied.{replies_are_in_history}
use Rattle.live_runs.proofs.laws.replies_are_in_history.Goals as goal

pub returns : goal.returns
returns c = replies_are_in_history c.sessions_keep_order.ensures
