use Rattle.std.proofs.Common.{take}
use Rattle.live_streams.specs.Steps.{HandsEnded}
use Rattle.live_streams.proofs.reading.Reader.take_bytes.Given as goal

abbrev pub invariant-loop-byte : goal.invariant-loop-byte
invariant-loop-byte g l =
    HandsEnded l.fn.cutter l.cutter (take l.byte-index l.bytes) l.fn.self.lines.items l.self.lines.items l.fn.self.own.answers l.self.own.answers
