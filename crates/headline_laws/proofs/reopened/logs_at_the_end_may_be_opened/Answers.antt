use Rattle.headline_laws.proofs.LogsAtTheEndMayBeOpened.{logs_at_the_end_may_be_opened}
use Rattle.headline_laws.proofs.reopened.logs_at_the_end_may_be_opened.Goals as goal

pub returns : goal.returns
returns c = logs_at_the_end_may_be_opened
