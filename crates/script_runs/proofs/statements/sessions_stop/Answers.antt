use Rattle.script_runs.proofs.Sessions.{sessions_stop}
use Rattle.script_runs.proofs.statements.sessions_stop.Goals as goal

pub returns : goal.returns
returns g c = sessions_stop g.C.SessionCalls.missed
