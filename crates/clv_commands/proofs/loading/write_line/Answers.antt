use Rattle.std.proofs.Common.{refl, [], Ok}
use Rattle.clv_commands.specs.Sinks.{line_of}
use Rattle.clv_commands.proofs.Endings.{unshown}
use Rattle.clv_commands.proofs.loading.write_line.Goals as goal

pub returns-in_default-clause-ends : goal.returns-in_default-clause-ends
returns-in_default-clause-ends g c = (Ok tt, refl)

pub returns-in_default-clause-took : goal.returns-in_default-clause-took
returns-in_default-clause-took g c =
    let text = line_of c.args.work.sessions c.args.work.accounts c.args.work.transfers in
    (unshown c.args.running (record { journals = []; found = [] }) text (g.K.Sink.faults c.args.sink.now) (g.K.Sink.taken c.args.sink.now) c.in_default.not-Fine c.requires.running).0

pub returns-in_default-clause-cause : goal.returns-in_default-clause-cause
returns-in_default-clause-cause g c = λ kept.
    let text = line_of c.args.work.sessions c.args.work.accounts c.args.work.transfers in
    (unshown c.args.running kept text (g.K.Sink.faults c.args.sink.now) (g.K.Sink.taken c.args.sink.now) c.in_default.not-Fine c.requires.running).1
