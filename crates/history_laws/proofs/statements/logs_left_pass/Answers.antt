use Rattle.history_laws.proofs.LogsLeftPass.{logs_left_pass}
use Rattle.history_laws.proofs.statements.logs_left_pass.Goals as goal

pub returns : goal.returns
returns c = logs_left_pass
