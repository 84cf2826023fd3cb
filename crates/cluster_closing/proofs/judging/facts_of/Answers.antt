use Rattle.cluster_closing.specs.Judging.{disordered}
use Rattle.cluster_closing.proofs.judging.facts_of.Goals as goal

pub returns-in-Err-Breaks-clause-fault : goal.returns-in-Err-Breaks-clause-fault
returns-in-Err-Breaks-clause-fault c = λ run own. disordered (rw c.in-Err-Breaks.field-0-is at c.in-Err-Breaks.ensures.refused)
