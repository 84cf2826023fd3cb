use Rattle.journal_laws.proofs.SteadyIsLegal.{empty_logs_may_be_opened}
use Rattle.journal_laws.proofs.statements.empty_logs_may_be_opened.Goals as goal

pub returns : goal.returns
returns c = empty_logs_may_be_opened
