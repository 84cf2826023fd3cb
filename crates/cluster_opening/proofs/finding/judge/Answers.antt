use Rattle.std.proofs.Common.{refl, rules}
use Rattle.cluster_opening.proofs.finding.judge.Goals as goal

pub returns-in-Err-Breaks-clause-fault : goal.returns-in-Err-Breaks-clause-fault
returns-in-Err-Breaks-clause-fault c = (refl, search rules, rw c.in-Err-Breaks.field-0-is at c.in-Err-Breaks.ensures.refused)
