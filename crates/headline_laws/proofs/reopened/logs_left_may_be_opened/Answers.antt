use Rattle.headline_laws.proofs.LogsLeftMayBeOpened.{logs_left_may_be_opened}
use Rattle.headline_laws.proofs.reopened.logs_left_may_be_opened.Goals as goal

pub returns : goal.returns
returns c = logs_left_may_be_opened
