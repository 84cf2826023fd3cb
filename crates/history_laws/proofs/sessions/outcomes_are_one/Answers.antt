use Rattle.history_laws.proofs.SessionsKeepTheirOrder.{outcomes_are_one}
use Rattle.history_laws.proofs.sessions.outcomes_are_one.Goals as goal

pub returns : goal.returns
returns c = outcomes_are_one
