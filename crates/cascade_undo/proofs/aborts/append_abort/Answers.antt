use Rattle.std.proofs.Common.{ap, ◌∙◌}
use Rattle.clv_base.specs.declared.logs.LogRecord.TheVariants.{Abort}
use Rattle.clv_base.specs.Logs.{standing}
use Rattle.law_base.proofs.Doubts.{standing_more}
use Rattle.cascade_undo.proofs.aborts.append_abort.Goals as goal

pub returns-then-has_standing-clause-standing : goal.returns-then-has_standing-clause-standing
returns-then-has_standing-clause-standing c = ap standing c.append_reserved.ensures.records ∙ standing_more c.args.buffer.now.records (Abort c.args.tx)
