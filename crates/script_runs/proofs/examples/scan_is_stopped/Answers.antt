use Rattle.script_runs.proofs.Retried.{scan_is_stopped}
use Rattle.script_runs.proofs.examples.scan_is_stopped.Goals as goal

pub returns : goal.returns
returns c = scan_is_stopped
