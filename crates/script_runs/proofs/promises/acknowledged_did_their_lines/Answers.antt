use Rattle.script_runs.proofs.TriesListed.{acknowledged_did_their_lines}
use Rattle.script_runs.proofs.promises.acknowledged_did_their_lines.Goals as goal

pub returns : goal.returns
returns c = acknowledged_did_their_lines
