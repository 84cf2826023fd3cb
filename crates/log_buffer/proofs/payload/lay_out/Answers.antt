use Rattle.std.proofs.Common.{◌≡◌, sym, subst, ◌-◌, drop, true, List}
use Rattle.std.specs.List.{list_all}
use Rattle.clv_base.specs.declared.logs.LogRecord.{LogRecord}
use Rattle.clv_base.specs.FileRules.{has_spelling}
use Rattle.log_buffer.proofs.payload.lay_out.Goals as goal
use Rattle.law_base.proofs.Logs.{spelled_taken as all_taken, spelled_dropped as all_dropped}

pub spell-requires-clause-spelled : goal.spell-requires-clause-spelled
spell-requires-clause-spelled c =
    subst (λ (rs : List LogRecord). list_all has_spelling rs ≡ true) (sym c.records.ensures) (all_taken (c.args.batch.upto - c.args.batch.from) (drop c.args.batch.from c.args.buffer.now.records) (all_dropped c.args.batch.from c.args.buffer.now.records c.requires.spelled))
