use Rattle.cluster_turns.proofs.Answering.{answers_have_entries}
use Rattle.cluster_turns.proofs.turn_promises.answers_have_entries.Goals as goal

pub returns : goal.returns
returns g c = answers_have_entries
