use Rattle.ended_laws.proofs.Following.{the_dead_ask_nothing}
use Rattle.ended_laws.proofs.sessions.the_dead_ask_nothing.Goals as goal

pub returns : goal.returns
returns c = the_dead_ask_nothing
