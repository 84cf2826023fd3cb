use Rattle.std.proofs.Common.{◌<◌, length, arith}
use Rattle.std.proofs.lemmas.Result.{err_from_is_err_and}
use Rattle.live_streams.proofs.Taking.{some_failed, some_ended, some_read, some_stopped}
use Rattle.live_streams.proofs.reading.Reader.read_some.Goals as goal

pub returns-in_err-count-clause-read : goal.returns-in_err-count-clause-read
returns-in_err-count-clause-read g c =
    let p = err_from_is_err_and c.from_residual.result c.from_residual.ensures.1 in
    rw p.1
    (some_failed (g.S.Source.left c.args.source.now) (g.S.Source.left c.read.new.self) c.read.new.into c.args.cutter.now c.args.self.now.lines.items c.args.self.now.own.answers
    _ p.0 p.2 c.in_err-count.ensures.told)

pub returns-then-count-eq0-clause-read : goal.returns-then-count-eq0-clause-read
returns-then-count-eq0-clause-read g c =
    let room : 0 < length c.read.new.into = omega (arith, c.requires, c.read.auto.into) in
    some_ended (g.S.Source.left c.args.source.now) (g.S.Source.left c.read.new.self) c.read.new.into c.in_ok-count.count c.args.cutter.now c.args.self.now.lines.items c.take_last.new.self.lines.items
    c.args.self.now.own.answers c.take_last.new.self.own.answers c.take_last.result c.if-count-eq0.true room c.in_ok-count.ensures.told c.take_last.ensures

pub returns-in-Ok-clause-read : goal.returns-in-Ok-clause-read
returns-in-Ok-clause-read g c =
    some_read (g.S.Source.left c.args.source.now) (g.S.Source.left c.read.new.self) c.read.new.into c.in_ok-count.count c.args.cutter.now c.take_bytes.new.cutter
    c.args.self.now.lines.items c.take_bytes.new.self.lines.items c.args.self.now.own.answers c.take_bytes.new.self.own.answers c.in_ok-count.ensures.told c.in-Ok.ensures

pub returns-in-Err-clause-read : goal.returns-in-Err-clause-read
returns-in-Err-clause-read g c =
    some_stopped (g.S.Source.left c.args.source.now) (g.S.Source.left c.read.new.self) c.read.new.into c.in_ok-count.count c.args.cutter.now c.take_bytes.new.cutter
    c.args.self.now.lines.items c.take_bytes.new.self.lines.items c.args.self.now.own.answers c.take_bytes.new.self.own.answers c.in_ok-count.ensures.told c.in-Err.ensures
