use Rattle.script_runs.proofs.Sessions.{sessions_go_on}
use Rattle.script_runs.proofs.statements.sessions_go_on.Goals as goal

pub returns : goal.returns
returns g c = sessions_go_on g.C.SessionCalls.missed
