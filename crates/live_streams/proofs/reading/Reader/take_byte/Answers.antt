use Rattle.std.proofs.Common.{◌≡◌, ◌==◌, false, ne_eqb}
use Rattle.live_streams.proofs.Taking.{feed_handed, byte_handed}
use Rattle.live_streams.proofs.reading.Reader.take_byte.Goals as goal

pub returns-in_ok-take_line : goal.returns-in_ok-take_line
returns-in_ok-take_line g c =
    feed_handed c.args.cutter.now c.begin.new.self c.args.byte _ c.args.self.now.lines.items c.take_line.new.self.lines.items c.args.self.now.own.answers c.take_line.new.self.own.answers
    c.if-byte-eq10.true c.line.ensures c.begin.ensures c.in_ok-take_line.ensures

pub returns-else-byte-eq10 : goal.returns-else-byte-eq10
returns-else-byte-eq10 g c =
    let isnt : (c.args.byte == 10) ≡ false = ne_eqb _ _ c.if-byte-eq10.false in
    byte_handed c.args.cutter.now c.take.new.self c.args.byte c.args.self.now.lines.items c.args.self.now.own.answers isnt c.take.ensures
