use Rattle.journal_laws.proofs.SteadyIsLegal.{run_events_is_legal}
use Rattle.journal_laws.proofs.statements.run_events_is_legal.Goals as goal

pub returns : goal.returns
returns c = run_events_is_legal
