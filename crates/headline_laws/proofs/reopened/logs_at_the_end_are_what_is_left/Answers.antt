use Rattle.headline_laws.proofs.LogsAtTheEndMayBeOpened.{logs_at_the_end_are_what_is_left}
use Rattle.headline_laws.proofs.reopened.logs_at_the_end_are_what_is_left.Goals as goal

pub returns : goal.returns
returns c = logs_at_the_end_are_what_is_left
