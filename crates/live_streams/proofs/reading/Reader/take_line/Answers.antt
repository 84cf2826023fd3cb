use Rattle.std.proofs.Common.{◌∙◌, length, Some, None}
use Rattle.live_lines.specs.declared.calls.Refusal.TheVariants as refusal
use Rattle.live_streams.proofs.Handing.{none_handed}
use Rattle.live_streams.proofs.Taking.{none_taken, blank_taken, of_taken, unnamed_taken}
use Rattle.live_streams.proofs.reading.Reader.take_line.Goals as goal

pub returns-in_default : goal.returns-in_default
returns-in_default g c = (None, Some refusal.TooLong, none_taken (length c.args.self.now.lines.items) c.args.line c.in_default.is, c.refuse.ensures)

pub returns-in-Blank : goal.returns-in-Blank
returns-in-Blank g c =
    let lines = c.args.self.now.lines in
    let taken = blank_taken c.len.result (length lines.items) c.args.line c.in-Some.bytes c.request_of.result (c.len.ensures ∙ lines.ok.0) c.in-Some.is c.in-Blank.is c.request_of.ensures in
    (None, None, taken, none_handed lines.items c.args.self.now.own.answers)

pub returns-in-Of : goal.returns-in-Of
returns-in-Of g c =
    let lines = c.args.self.now.lines in
    let taken = of_taken c.len.result (length lines.items) c.args.line c.in-Some.bytes c.request_of.result c.in-Of.session c.in-Of.asked (c.len.ensures ∙ lines.ok.0) c.in-Some.is c.in-Of.is c.request_of.ensures in
    (Some (c.in-Of.session, c.in-Of.asked), None, taken, c.hand.ensures)

pub returns-in-NoSession : goal.returns-in-NoSession
returns-in-NoSession g c =
    let lines = c.args.self.now.lines in
    let taken = unnamed_taken c.len.result (length lines.items) c.args.line c.in-Some.bytes c.request_of.result (c.len.ensures ∙ lines.ok.0) c.in-Some.is c.in-NoSession.is c.request_of.ensures in
    (None, Some refusal.NoSession, taken, c.refuse-in-NoSession.ensures)
