use Rattle.std.proofs.Common.{◌≡◌, ◌<◌, ℕ, List, length}
use Rattle.io_model.specs.Streams.{Consumes}
use Rattle.live_lines.specs.Cutting.{none_begun}
use Rattle.live_streams.specs.Steps.{HandsEnded}
use Rattle.live_streams.proofs.reading.Reader.read_until_over.Given as goal

abbrev pub invariant-loop : goal.invariant-loop
invariant-loop g l = record {
  bytes : List ℕ;
  consumes : Consumes (g.S.Source.left l.fn.source) (g.S.Source.left l.source) bytes;
  ended : HandsEnded none_begun l.cutter bytes l.fn.self.lines.items l.self.lines.items l.fn.self.own.answers l.self.own.answers;
  room : 0 < length l.piece.items;
  fine : g.S.Source.faults l.source ≡ g.S.Source.faults l.fn.source;
}
