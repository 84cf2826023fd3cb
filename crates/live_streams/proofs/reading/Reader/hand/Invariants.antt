use Rattle.std.proofs.Common.{[], ◌≡◌}
use Rattle.live_streams.specs.Handed.{HandsAll}
use Rattle.live_streams.proofs.reading.Reader.hand.Given as goal

abbrev pub invariant-loop : goal.invariant-loop
invariant-loop g l = record {
  asked : l.asked ≡ l.fn.asked;
  own : l.self.own ≡ l.fn.self.own;
  hands : HandsAll [] [] l.fn.self.lines.items l.self.lines.items l.fn.self.own.answers l.self.own.answers;
}
