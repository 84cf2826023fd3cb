use Rattle.std.proofs.Common.{refl, Ok}
use Rattle.clv_base.specs.Logs.{stands as stands_for}
use Rattle.report_text.specs.Report.{pairs_text as text_of_pairs}
use Rattle.clv_commands.proofs.Endings.{unshown}
use Rattle.clv_commands.proofs.showing.write_pairs.Goals as goal

pub returns-in_default : goal.returns-in_default
returns-in_default g c =
    let so = unshown c.args.running c.args.history.now (text_of_pairs (stands_for c.args.history.now.found)) (g.K.Sink.faults c.args.sink.now) (g.K.Sink.taken c.args.sink.now) c.in_default.not-Fine c.requires.running in
    record { ends = (Ok tt, refl); took = so.0; cause = so.1 }
