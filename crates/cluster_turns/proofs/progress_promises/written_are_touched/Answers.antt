use Rattle.cluster_turns.proofs.Written.{written_are_touched}
use Rattle.cluster_turns.proofs.progress_promises.written_are_touched.Goals as goal

pub returns : goal.returns
returns c = written_are_touched
