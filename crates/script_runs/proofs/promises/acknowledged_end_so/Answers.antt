use Rattle.script_runs.proofs.TriesTell.{acknowledged_end_so}
use Rattle.script_runs.proofs.promises.acknowledged_end_so.Goals as goal

pub returns : goal.returns
returns c = acknowledged_end_so
