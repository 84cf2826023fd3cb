use Rattle.std.proofs.Common.{refl}
use Rattle.live_streams.proofs.Taking.{last_handed, none_left, none_begins}
use Rattle.live_streams.proofs.reading.Reader.take_last.Goals as goal

pub returns-then-not-has_begun : goal.returns-then-not-has_begun
returns-then-not-has_begun g c =
    none_left c.args.cutter.now c.args.self.now.lines.items c.args.self.now.own.answers (none_begins c.args.cutter.now.front c.if-not-has_begun.ensures.1)

pub returns-in-Ok : goal.returns-in-Ok
returns-in-Ok g c =
    last_handed c.args.cutter.now _ c.args.self.now.lines.items c.take_line.new.self.lines.items c.args.self.now.own.answers c.take_line.new.self.own.answers
    (c.if-not-has_begun.ensures.0 refl) c.line.ensures c.in-Ok.ensures
