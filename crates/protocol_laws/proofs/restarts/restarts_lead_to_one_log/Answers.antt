use Rattle.protocol_laws.proofs.RestartsLeadToOneLog.{restarts_lead_to_one}
use Rattle.protocol_laws.proofs.restarts.restarts_lead_to_one_log.Goals as goal

pub returns : goal.returns
returns c = restarts_lead_to_one
