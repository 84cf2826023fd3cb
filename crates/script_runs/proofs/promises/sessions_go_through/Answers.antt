use Rattle.script_runs.proofs.TriesSessions.{sessions_go_through}
use Rattle.script_runs.proofs.promises.sessions_go_through.Goals as goal

pub returns : goal.returns
returns c = sessions_go_through
