use Rattle.script_runs.proofs.TriesSessions.{tries_are_few}
use Rattle.script_runs.proofs.promises.tries_are_few.Goals as goal

pub returns : goal.returns
returns c = tries_are_few
