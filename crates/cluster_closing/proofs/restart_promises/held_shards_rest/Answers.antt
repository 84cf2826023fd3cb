use Rattle.machine_laws.proofs.Laws.{held_rests}
use Rattle.cluster_closing.proofs.restart_promises.held_shards_rest.Goals as goal

pub returns : goal.returns
returns c = held_rests
