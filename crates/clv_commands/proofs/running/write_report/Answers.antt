use Rattle.std.proofs.Common.{refl, sym, subst, ◌∙◌, [], Ok, Some, None}
use Rattle.report_text.specs.Report.{report}
use Rattle.clv_commands.specs.Sinks.{TookReport}
use Rattle.clv_commands.specs.Causes.{CountsSink}
use Rattle.clv_commands.proofs.Reported.{reported, reported_so, unreported}
use Rattle.clv_commands.proofs.running.write_report.Goals as goal

pub returns-then-writes_report-clause-took : goal.returns-then-writes_report-clause-took
returns-then-writes_report-clause-took g c splits before h after books =
    let faults = g.K.Sink.faults in let taken = g.K.Sink.taken in let old = c.args.sink.now in let new = c.report_of_books_into.new.sink in
    subst (λ s. TookReport (report h) s (faults old) (faults new) (taken old) (taken new)) (sym c.after_text.ensures)
    (reported c.args.running c.report_of_books_into.result _ _ _ _ _ c.requires.running (sym c.writes_report.ensures ∙ c.if-writes_report.true) (c.books_are_reported.ensures splits before h after c.args.books.items books _ _ _ c.report_of_books_into.ensures.took) c.report_of_books_into.ensures.cause)

pub returns-then-writes_report-clause-cause : goal.returns-then-writes_report-clause-cause
returns-then-writes_report-clause-cause g c kept =
    let faults = g.K.Sink.faults in let old = c.args.sink.now in let new = c.report_of_books_into.new.sink in
    subst (λ s. CountsSink (Some kept) (faults old) (faults new) s) (sym c.after_text.ensures)
    (reported_so c.args.running c.report_of_books_into.result kept _ _ c.requires.running (sym c.writes_report.ensures ∙ c.if-writes_report.true) c.report_of_books_into.ensures.cause)

pub returns-else-writes_report-clause-ends : goal.returns-else-writes_report-clause-ends
returns-else-writes_report-clause-ends g c = (Ok tt, refl)

pub returns-else-writes_report-clause-took : goal.returns-else-writes_report-clause-took
returns-else-writes_report-clause-took g c splits before h after books = (unreported c.args.running (report h) (record { journals = []; found = [] }) _ _ c.requires.running (sym c.writes_report.ensures ∙ c.if-writes_report.false)).0

pub returns-else-writes_report-clause-cause : goal.returns-else-writes_report-clause-cause
returns-else-writes_report-clause-cause g c kept = (unreported c.args.running [] kept _ None c.requires.running (sym c.writes_report.ensures ∙ c.if-writes_report.false)).1
