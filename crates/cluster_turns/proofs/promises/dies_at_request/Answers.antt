use Rattle.cluster_turns.proofs.Unbearing.{dies_at_request}
use Rattle.cluster_turns.proofs.promises.dies_at_request.Goals as goal

pub returns : goal.returns
returns g c = dies_at_request
