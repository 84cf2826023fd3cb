use Rattle.cluster_runs.proofs.Undone.{undo_stands_for_it}
use Rattle.cluster_runs.proofs.statements.undo_stands.Goals as goal

-- src/laws.rt:6:1
pub returns : goal.returns
returns c = undo_stands_for_it
