use Rattle.headline_laws.proofs.AcknowledgedStand.{acknowledgements_have_requests}
use Rattle.headline_laws.proofs.acknowledged.acknowledgements_have_requests.Goals as goal

pub returns : goal.returns
returns c = acknowledgements_have_requests
