use Rattle.run_audit_laws.proofs.Runs.{nothing_is_unsettled}
use Rattle.run_audit_laws.proofs.statements.nothing_is_unsettled.Goals as goal

pub returns : goal.returns
returns c = nothing_is_unsettled c.requests_are_told.ensures
