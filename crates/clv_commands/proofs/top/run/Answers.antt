use Rattle.std.proofs.Common.{map, IfSome}
use Rattle.io_model.specs.Sides.{sides_told}
use Rattle.clv_commands.specs.Kinds.{IsOfCommand}
use Rattle.clv_commands.specs.Disks.{ClosedBy, Makes}
use Rattle.clv_commands.specs.Sinks.{Took}
use Rattle.clv_commands.specs.Causes.{HasBytes, BreaksBy, BreaksSource, CountsSourceBy, CountsSinkBy}
use Rattle.clv_commands.specs.Reading.{ReadsBy}
use Rattle.clv_commands.specs.Audited.{AuditedBy}
use Rattle.clv_commands.specs.Standing.{ShownBy}
use Rattle.clv_commands.specs.Completing.{IsAccepted, NoneRose, IsCompleted}
use Rattle.clv_commands.specs.Runs.{PromisedBy, ServedBy, OpensByCommand}
use Rattle.clv_commands.proofs.Words.{shown}
use Rattle.clv_commands.proofs.Refused.{refused, kind, closed, taken, unread, completed_not, unbroken, unjudged, unshown, source_stands, sink_stands, source_still, sink_still, source_but, sink_but}
use Rattle.clv_commands.proofs.Completing.{completed}
use Rattle.clv_commands.proofs.top.run.Goals as goal

pub returns-in-Ok-clause-kind : goal.returns-in-Ok-clause-kind
returns-in-Ok-clause-kind g c = shown (map (λ w. w.now) c.args.words.now) c.in-Ok.command (λ d. IsOfCommand d c.obey.result.status) c.in-Ok.ensures.command c.obey.ensures.kind

pub returns-in-Ok-clause-promised : goal.returns-in-Ok-clause-promised
returns-in-Ok-clause-promised g c = shown (map (λ w. w.now) c.args.words.now) c.in-Ok.command (λ d. IfSome c.obey.result.history (PromisedBy d (g.S.Source.left c.args.source.now) (sides_told (g.H.House.story c.args.house.now)) (sides_told (g.H.House.story c.obey.new.house)) (g.H.House.faults c.args.house.now) (g.H.House.faults c.obey.new.house) c.obey.result.status)) c.in-Ok.ensures.command c.obey.ensures.promised

pub returns-in-Ok-clause-served : goal.returns-in-Ok-clause-served
returns-in-Ok-clause-served g c = shown (map (λ w. w.now) c.args.words.now) c.in-Ok.command
    (λ d. IfSome c.obey.result.history (ServedBy d (g.S.Source.left c.args.source.now) (g.S.Source.left c.obey.new.source) (g.K.Sink.taken c.args.sink.now) (g.K.Sink.taken c.obey.new.sink) (sides_told (g.H.House.story c.args.house.now)) (sides_told (g.H.House.story c.obey.new.house)) (g.H.House.faults c.args.house.now) (g.H.House.faults c.obey.new.house) c.obey.result.status))
    c.in-Ok.ensures.command c.obey.ensures.served

pub returns-in-Ok-clause-audited : goal.returns-in-Ok-clause-audited
returns-in-Ok-clause-audited g c = shown (map (λ w. w.now) c.args.words.now) c.in-Ok.command
    (λ d. AuditedBy d (g.S.Source.left c.args.source.now) (sides_told (g.H.House.story c.args.house.now)) (g.K.Sink.faults c.args.sink.now) (g.K.Sink.faults c.obey.new.sink) (g.K.Sink.taken c.args.sink.now) (g.K.Sink.taken c.obey.new.sink) c.obey.result.status)
    c.in-Ok.ensures.command c.obey.ensures.audited

pub returns-in-Ok-clause-standby : goal.returns-in-Ok-clause-standby
returns-in-Ok-clause-standby g c = shown (map (λ w. w.now) c.args.words.now) c.in-Ok.command
    (λ d. ShownBy d (sides_told (g.H.House.story c.args.house.now)) (g.K.Sink.taken c.args.sink.now) (g.K.Sink.taken c.obey.new.sink) c.obey.result.status)
    c.in-Ok.ensures.command c.obey.ensures.standby

pub returns-in-Ok-clause-opened : goal.returns-in-Ok-clause-opened
returns-in-Ok-clause-opened g c = shown (map (λ w. w.now) c.args.words.now) c.in-Ok.command (λ d. OpensByCommand d c.obey.result.status c.obey.result.history) c.in-Ok.ensures.command c.obey.ensures.opened

pub returns-in-Ok-clause-took : goal.returns-in-Ok-clause-took
returns-in-Ok-clause-took g c = shown (map (λ w. w.now) c.args.words.now) c.in-Ok.command (λ d. Took d c.obey.result.status c.obey.result.history (g.K.Sink.faults c.args.sink.now) (g.K.Sink.faults c.obey.new.sink) (g.K.Sink.taken c.args.sink.now) (g.K.Sink.taken c.obey.new.sink)) c.in-Ok.ensures.command c.obey.ensures.took

pub returns-in-Ok-clause-closed : goal.returns-in-Ok-clause-closed
returns-in-Ok-clause-closed g c = shown (map (λ w. w.now) c.args.words.now) c.in-Ok.command (λ d. ClosedBy d c.obey.result.status c.obey.result.history (sides_told (g.H.House.story c.args.house.now)) (sides_told (g.H.House.story c.obey.new.house))) c.in-Ok.ensures.command c.obey.ensures.closed

pub returns-in-Ok-clause-made : goal.returns-in-Ok-clause-made
returns-in-Ok-clause-made g c = shown (map (λ w. w.now) c.args.words.now) c.in-Ok.command (λ d. Makes d c.obey.result.status (sides_told (g.H.House.story c.args.house.now)) (sides_told (g.H.House.story c.obey.new.house))) c.in-Ok.ensures.command c.obey.ensures.made

pub returns-in-Ok-clause-exists : goal.returns-in-Ok-clause-exists
returns-in-Ok-clause-exists g c = shown (map (λ w. w.now) c.args.words.now) c.in-Ok.command (λ d. HasBytes d c.obey.result.status (sides_told (g.H.House.story c.args.house.now)) (sides_told (g.H.House.story c.obey.new.house))) c.in-Ok.ensures.command c.obey.ensures.exists

pub returns-in-Ok-clause-usage : goal.returns-in-Ok-clause-usage
returns-in-Ok-clause-usage g c =
    taken (map (λ w. w.now) c.args.words.now) c.in-Ok.command c.obey.result.status c.in-Ok.ensures.command
    (shown (map (λ w. w.now) c.args.words.now) c.in-Ok.command (λ d. IsOfCommand d c.obey.result.status) c.in-Ok.ensures.command c.obey.ensures.kind)

pub returns-in-Ok-clause-nothing : goal.returns-in-Ok-clause-nothing
returns-in-Ok-clause-nothing g c = λ none. absurd (none c.in-Ok.command c.in-Ok.ensures.command)

pub returns-in-Ok-clause-read : goal.returns-in-Ok-clause-read
returns-in-Ok-clause-read g c = shown (map (λ w. w.now) c.args.words.now) c.in-Ok.command (λ d. ReadsBy d c.obey.result.history c.obey.result.status (g.S.Source.left c.args.source.now) (g.S.Source.left c.obey.new.source)) c.in-Ok.ensures.command c.obey.ensures.read

pub returns-in-Ok-clause-logs : goal.returns-in-Ok-clause-logs
returns-in-Ok-clause-logs g c = shown (map (λ w. w.now) c.args.words.now) c.in-Ok.command (λ d. BreaksBy d c.obey.result.status c.obey.result.history (sides_told (g.H.House.story c.args.house.now))) c.in-Ok.ensures.command c.obey.ensures.logs

pub returns-in-Ok-clause-script : goal.returns-in-Ok-clause-script
returns-in-Ok-clause-script g c = shown (map (λ w. w.now) c.args.words.now) c.in-Ok.command (λ d. BreaksSource d c.obey.result.status (g.S.Source.left c.args.source.now)) c.in-Ok.ensures.command c.obey.ensures.script

pub returns-in-Ok-clause-source : goal.returns-in-Ok-clause-source
returns-in-Ok-clause-source g c = source_but (map (λ w. w.now) c.args.words.now) c.in-Ok.command c.obey.result.history (g.S.Source.faults c.args.source.now) (g.S.Source.faults c.obey.new.source) c.obey.result.status c.in-Ok.ensures.command c.obey.ensures.source

pub returns-in-Ok-clause-sink : goal.returns-in-Ok-clause-sink
returns-in-Ok-clause-sink g c = sink_but (map (λ w. w.now) c.args.words.now) c.in-Ok.command c.obey.result.history (g.K.Sink.faults c.args.sink.now) (g.K.Sink.faults c.obey.new.sink) c.obey.result.status c.in-Ok.ensures.command c.obey.ensures.sink

pub returns-in-Ok-clause-served_source : goal.returns-in-Ok-clause-served_source
returns-in-Ok-clause-served_source g c = shown (map (λ w. w.now) c.args.words.now) c.in-Ok.command (λ d. CountsSourceBy d c.obey.result.history (g.S.Source.faults c.args.source.now) (g.S.Source.faults c.obey.new.source) c.obey.result.status) c.in-Ok.ensures.command c.obey.ensures.source

pub returns-in-Ok-clause-served_sink : goal.returns-in-Ok-clause-served_sink
returns-in-Ok-clause-served_sink g c = shown (map (λ w. w.now) c.args.words.now) c.in-Ok.command (λ d. CountsSinkBy d c.obey.result.history (g.K.Sink.faults c.args.sink.now) (g.K.Sink.faults c.obey.new.sink) c.obey.result.status) c.in-Ok.ensures.command c.obey.ensures.sink

pub returns-in-Ok-clause-completes : goal.returns-in-Ok-clause-completes
returns-in-Ok-clause-completes g c =
    let e = c.obey.ensures in
    shown (map (λ w. w.now) c.args.words.now) c.in-Ok.command
    (λ d. IsAccepted d (g.S.Source.left c.args.source.now) (sides_told (g.H.House.story c.args.house.now)) → NoneRose (g.S.Source.faults c.args.source.now) (g.S.Source.faults c.obey.new.source) (g.K.Sink.faults c.args.sink.now) (g.K.Sink.faults c.obey.new.sink) (g.H.House.faults c.args.house.now) (g.H.House.faults c.obey.new.house) → IsCompleted d c.obey.result.status)
    c.in-Ok.ensures.command
    (λ ok none. completed c.scripts_are_not_refused.ensures c.reports_have_no_fault.ensures c.good_logs_are_not_refused.ensures c.obey.result.history (g.S.Source.left c.args.source.now) (sides_told (g.H.House.story c.args.house.now)) (sides_told (g.H.House.story c.obey.new.house)) (g.S.Source.faults c.args.source.now) (g.S.Source.faults c.obey.new.source) (g.K.Sink.faults c.args.sink.now) (g.K.Sink.faults c.obey.new.sink) (g.H.House.faults c.args.house.now) (g.H.House.faults c.obey.new.house) none
    c.in-Ok.command c.obey.result.status e.kind e.exists e.logs e.script e.source e.sink e.disks ok)

pub returns-in-Err-clause-usage : goal.returns-in-Err-clause-usage
returns-in-Err-clause-usage g c = refused (map (λ w. w.now) c.args.words.now) c.in-Err.error c.into.result c.into.ensures c.in-Err.ensures.usage

pub returns-in-Err-clause-kind : goal.returns-in-Err-clause-kind
returns-in-Err-clause-kind g c = kind (map (λ w. w.now) c.args.words.now) c.in-Err.error c.into.result c.into.ensures c.in-Err.ensures.usage

pub returns-in-Err-clause-closed : goal.returns-in-Err-clause-closed
returns-in-Err-clause-closed g c = closed (map (λ w. w.now) c.args.words.now) c.in-Err.error c.into.result (sides_told (g.H.House.story c.args.house.now)) c.into.ensures c.in-Err.ensures.usage

pub returns-in-Err-clause-read : goal.returns-in-Err-clause-read
returns-in-Err-clause-read g c = unread (map (λ w. w.now) c.args.words.now) c.in-Err.error c.into.result (g.S.Source.left c.args.source.now) c.into.ensures c.in-Err.ensures.usage

pub returns-in-Err-clause-script : goal.returns-in-Err-clause-script
returns-in-Err-clause-script g c = unbroken (map (λ w. w.now) c.args.words.now) c.in-Err.error c.into.result (g.S.Source.left c.args.source.now) c.into.ensures

pub returns-in-Err-clause-audited : goal.returns-in-Err-clause-audited
returns-in-Err-clause-audited g c = unjudged (map (λ w. w.now) c.args.words.now) c.in-Err.error c.into.result (g.S.Source.left c.args.source.now) (sides_told (g.H.House.story c.args.house.now)) (g.K.Sink.faults c.args.sink.now) (g.K.Sink.taken c.args.sink.now) c.into.ensures

pub returns-in-Err-clause-standby : goal.returns-in-Err-clause-standby
returns-in-Err-clause-standby g c = unshown (map (λ w. w.now) c.args.words.now) c.in-Err.error c.into.result (sides_told (g.H.House.story c.args.house.now)) (g.K.Sink.taken c.args.sink.now) c.into.ensures

pub returns-in-Err-clause-completes : goal.returns-in-Err-clause-completes
returns-in-Err-clause-completes g c = λ d is ok none. completed_not (map (λ w. w.now) c.args.words.now) c.in-Err.error c.into.result c.into.ensures c.in-Err.ensures.usage d is

pub returns-in-Err-clause-source : goal.returns-in-Err-clause-source
returns-in-Err-clause-source g c = λ other. source_still c.in-Err.error c.into.result (g.S.Source.faults c.args.source.now) c.into.ensures

pub returns-in-Err-clause-sink : goal.returns-in-Err-clause-sink
returns-in-Err-clause-sink g c = λ other. sink_still c.in-Err.error c.into.result (g.K.Sink.faults c.args.sink.now) c.into.ensures

pub returns-in-Err-clause-served_source : goal.returns-in-Err-clause-served_source
returns-in-Err-clause-served_source g c = source_stands (map (λ w. w.now) c.args.words.now) c.in-Err.error c.into.result (g.S.Source.faults c.args.source.now) c.into.ensures

pub returns-in-Err-clause-served_sink : goal.returns-in-Err-clause-served_sink
returns-in-Err-clause-served_sink g c = sink_stands (map (λ w. w.now) c.args.words.now) c.in-Err.error c.into.result (g.K.Sink.faults c.args.sink.now) c.into.ensures
