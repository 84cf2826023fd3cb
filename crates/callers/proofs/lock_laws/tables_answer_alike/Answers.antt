use Rattle.callers.proofs.LocksAlike.{alike}
use Rattle.callers.proofs.lock_laws.tables_answer_alike.Goals as goal

pub returns : goal.returns
returns c = alike
