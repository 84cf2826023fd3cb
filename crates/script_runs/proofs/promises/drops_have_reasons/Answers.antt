use Rattle.script_runs.proofs.TriesListed.{drops_have_reasons}
use Rattle.script_runs.proofs.promises.drops_have_reasons.Goals as goal

pub returns : goal.returns
returns c = drops_have_reasons
