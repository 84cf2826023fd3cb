use Rattle.cluster_turns.proofs.Answering.{down_is_seen}
use Rattle.cluster_turns.proofs.turn_promises.down_is_seen.Goals as goal

pub returns : goal.returns
returns g c = down_is_seen
