use Rattle.ended_laws.proofs.parts.only_its_own_events_miss_it.Goals as goal
use Rattle.ended_laws.proofs.Meeting.{only_its_own_events_miss_it}

pub returns : goal.returns
returns c = only_its_own_events_miss_it
