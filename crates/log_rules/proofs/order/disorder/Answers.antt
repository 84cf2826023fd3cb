use Rattle.std.proofs.Common.{sym}
use Rattle.log_rules.proofs.order.disorder.Goals as goal

pub returns-in-Err-Breaks : goal.returns-in-Err-Breaks
returns-in-Err-Breaks c = sym (rw c.in-Err-Breaks.field-0-is at c.in-Err-Breaks.ensures.refused)
