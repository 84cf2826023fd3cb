use Rattle.ended_laws.proofs.parts.past_stays_past.Goals as goal
use Rattle.ended_laws.proofs.Past.{past_stays_past}

pub returns : goal.returns
returns c = past_stays_past
