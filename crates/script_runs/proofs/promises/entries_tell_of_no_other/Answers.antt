use Rattle.script_runs.proofs.TriesListed.{entries_tell_of_no_other}
use Rattle.script_runs.proofs.promises.entries_tell_of_no_other.Goals as goal

pub returns : goal.returns
returns c = entries_tell_of_no_other
