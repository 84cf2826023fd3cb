use Rattle.io_model.specs.Sides.{sides_told}
use Rattle.command_line.specs.declared.commands.Command.TheVariants.{Run, Audit}
use Rattle.clv_commands.specs.Runs.{PromisedBy}
use Rattle.command_examples.proofs.Auditing.{each_some, confirmed, as_shown}
use Rattle.command_examples.proofs.audits.run_and_audit.Goals as goal

pub returns-clause-confirmed : goal.returns-clause-confirmed
returns-clause-confirmed g c = λ tries is_run is_audit fine.
    let story = g.H.House.story in let counts = g.H.House.faults in let left = g.S.Source.left in let taken = g.K.Sink.taken in let faults = g.K.Sink.faults in
    let h0 = c.args.house.now in let h1 = c.run-ran.new.house in let h2 = c.run-audited.new.house in
    let source = left c.args.reported.now in
    let k1 = c.run-ran.new.sink in let k2 = c.run-audited.new.sink in
    each_some (PromisedBy (Run tries) (left c.args.script.now) (sides_told (story h0)) (sides_told (story h1)) (counts h0) (counts h1) c.run-ran.result.status) _ c.run-ran.result.history
    (λ kept p. confirmed c.left_logs_are_found.ensures c.reports_of_runs_are_true.ensures c.reports_tell_one_thing.ensures c.reports_have_no_fault.ensures c.verdicts_are_one.ensures c.texts_are_reports.ensures
    tries (left c.args.script.now) source (taken k1) (taken k2) (sides_told (story h0)) (sides_told (story h1)) (sides_told (story h2)) (counts h0) (counts h1) (faults k1) (faults k2) c.run-ran.result.status c.run-audited.result.status kept
    p (c.run-audited.ensures.audited Audit is_audit) (c.run-audited.ensures.script Audit is_audit) (c.run-audited.ensures.closed Audit is_audit) fine)
    (c.run-ran.ensures.promised (Run tries) is_run)

pub returns-clause-shown : goal.returns-clause-shown
returns-clause-shown g c = λ tries is_run.
    let story = g.H.House.story in let counts = g.H.House.faults in let left = g.S.Source.left in
    let h0 = c.args.house.now in let h1 = c.run-ran.new.house in
    each_some (PromisedBy (Run tries) (left c.args.script.now) (sides_told (story h0)) (sides_told (story h1)) (counts h0) (counts h1) c.run-ran.result.status) _ c.run-ran.result.history
    (λ kept p. as_shown c.shown_is_found.ensures tries (left c.args.script.now) (sides_told (story h0)) (sides_told (story h1)) (counts h0) (counts h1) c.run-ran.result.status kept p)
    (c.run-ran.ensures.promised (Run tries) is_run)
