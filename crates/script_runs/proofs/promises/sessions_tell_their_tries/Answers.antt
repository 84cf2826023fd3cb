use Rattle.script_runs.proofs.TriesSessions.{sessions_tell_their_tries}
use Rattle.script_runs.proofs.promises.sessions_tell_their_tries.Goals as goal

pub returns : goal.returns
returns c = sessions_tell_their_tries
