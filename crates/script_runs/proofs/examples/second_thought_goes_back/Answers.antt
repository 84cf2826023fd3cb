use Rattle.script_runs.proofs.Retried.{second_thought_goes_back}
use Rattle.script_runs.proofs.examples.second_thought_goes_back.Goals as goal

pub returns : goal.returns
returns c = second_thought_goes_back
