use Rattle.std.proofs.lemmas.Result.{on_ok_weaker}
use Rattle.log_analysis.specs.Standing.{owed_in}
use Rattle.log_analysis.proofs.Passing.{record_undone, record_written, on_ok_both}
use Rattle.log_analysis.proofs.standing.Passed.pass.Goals as goal

pub returns-in-Clr : goal.returns-in-Clr
returns-in-Clr c =
    on_ok_weaker c.pass_undo.result
    (λ set. record_undone (owed_in c.args.self.now) (owed_in c.pass_undo.new.self) c.args.lsns.now.items c.args.lsn c.args.r.now c.in-Clr.tx c.in-Clr.is set) c.pass_undo.ensures

pub returns-in-Update : goal.returns-in-Update
returns-in-Update c =
    on_ok_both c.pass_write.result
    (λ told set. record_written (owed_in c.args.self.now) (owed_in c.pass_write.new.self) c.args.lsns.now.items c.pass_write.new.lsns.items c.args.lsn c.args.r.now c.in-Update.tx c.in-Update.is told set)
    c.pass_write.ensures.lsns c.pass_write.ensures.owed
