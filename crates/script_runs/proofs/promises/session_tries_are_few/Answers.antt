use Rattle.script_runs.proofs.Counting.{session_tries_are_few}
use Rattle.script_runs.proofs.promises.session_tries_are_few.Goals as goal

pub returns : goal.returns
returns c = session_tries_are_few
