use Rattle.script_runs.proofs.TriesSessions.{transactions_have_own_births}
use Rattle.script_runs.proofs.promises.transactions_have_own_births.Goals as goal

pub returns : goal.returns
returns c = transactions_have_own_births
