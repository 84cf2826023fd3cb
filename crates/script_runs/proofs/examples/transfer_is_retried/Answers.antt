use Rattle.script_runs.proofs.Retried.{transfer_is_retried}
use Rattle.script_runs.proofs.examples.transfer_is_retried.Goals as goal

pub returns : goal.returns
returns c = transfer_is_retried
