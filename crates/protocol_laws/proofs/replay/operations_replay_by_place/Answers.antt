use Rattle.clv_base.proofs.Folding.{replays_by_place}
use Rattle.protocol_laws.proofs.replay.operations_replay_by_place.Goals as goal

pub returns : goal.returns
returns c = replays_by_place
