use Rattle.run_audit_laws.proofs.Texts.{shown_is_found}
use Rattle.run_audit_laws.proofs.statements.shown_is_found.Goals as goal

pub returns : goal.returns
returns c = shown_is_found c.left_logs_are_found.ensures c.runs_replay.ensures c.nothing_is_replayed.ensures
