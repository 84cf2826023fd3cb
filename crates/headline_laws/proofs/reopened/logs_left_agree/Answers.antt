use Rattle.headline_laws.proofs.LogsLeftMayBeOpened.{logs_left_agree}
use Rattle.headline_laws.proofs.reopened.logs_left_agree.Goals as goal

pub returns : goal.returns
returns c = logs_left_agree
