use Rattle.clv_audit.proofs.VerdictsAreOne.{one}
use Rattle.clv_audit.proofs.statements.verdicts_are_one.Goals as goal

pub returns : goal.returns
returns c = one
