use Rattle.script_runs.proofs.TriesSessions.{tries_have_one_birth}
use Rattle.script_runs.proofs.promises.tries_have_one_birth.Goals as goal

pub returns : goal.returns
returns c = tries_have_one_birth
