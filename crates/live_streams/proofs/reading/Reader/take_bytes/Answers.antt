use Rattle.std.proofs.Common.{subst, take_all, get_or, arith}
use Rattle.std.proofs.lemmas.List.{take_more}
use Rattle.std.proofs.lemmas.Result.{err_from_is_err_and}
use Rattle.live_streams.specs.Steps.{HandsEnded}
use Rattle.live_streams.proofs.Taking.{none_ended, bytes_handed, bytes_stopped}
use Rattle.live_streams.proofs.reading.Reader.take_bytes.Goals as goal

pub returns-in_err-take_byte : goal.returns-in_err-take_byte
returns-in_err-take_byte g c =
    let p = err_from_is_err_and c.from_residual.result c.from_residual.ensures.1 in
    rw p.1
    (bytes_stopped c.args.cutter.now c.loop-byte.cutter c.args.bytes.now c.loop-byte.byte-index c.args.self.now.lines.items c.loop-byte.self.lines.items c.take_byte.new.self.lines.items
    c.args.self.now.own.answers c.loop-byte.self.own.answers c.take_byte.new.self.own.answers c.loop-byte.invariant c.in_err-take_byte.ensures)

pub loop-byte-init : goal.loop-byte-init
loop-byte-init g c = none_ended c.args.cutter.now c.args.self.now.lines.items c.args.self.now.own.answers

pub loop-byte-preserved : goal.loop-byte-preserved
loop-byte-preserved g c =
    let bytes = c.args.bytes.now in
    let i = c.loop-byte.byte-index in
    bytes_handed c.args.cutter.now c.loop-byte.cutter c.take_byte.new.cutter bytes i (get_or bytes i 0) c.args.self.now.lines.items c.loop-byte.self.lines.items c.take_byte.new.self.lines.items
    c.args.self.now.own.answers c.loop-byte.self.own.answers c.take_byte.new.self.own.answers (take_more bytes i 0 (omega (arith, c.loop-byte-test.true))) c.loop-byte.invariant c.in_ok-take_byte.ensures

pub returns : goal.returns
returns g c =
    let bytes = c.args.bytes.now in
    let all = take_all c.loop-byte.byte-index bytes (omega (arith, c.loop-byte-test.false)) in
    subst (λ l. HandsEnded c.args.cutter.now c.loop-byte.cutter l c.args.self.now.lines.items c.loop-byte.self.lines.items c.args.self.now.own.answers c.loop-byte.self.own.answers) all c.loop-byte.invariant
