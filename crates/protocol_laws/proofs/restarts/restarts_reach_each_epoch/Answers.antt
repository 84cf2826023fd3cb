use Rattle.protocol_laws.proofs.RestartsLeadToOneLog.{restarts_reach}
use Rattle.protocol_laws.proofs.restarts.restarts_reach_each_epoch.Goals as goal

pub returns : goal.returns
returns c = restarts_reach
