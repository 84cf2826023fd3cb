use Rattle.std.proofs.Common.{◌≡◌, ◌+◌, ◌-◌, ◌<◌, length}
use Rattle.io_model.specs.Streams.{Consumes}
use Rattle.io_model.proofs.whole.read_all.Given as goal

abbrev pub invariant-loop-source : goal.invariant-loop-source
invariant-loop-source g l = record {
  so_far : Consumes (g.S.Source.left l.fn.source) (g.S.Source.left l.source) l.all.items;
  room : 0 < length l.piece.items;
  fine : g.S.Source.faults l.source ≡ g.S.Source.faults l.fn.source;
}

abbrev pub decreases-loop-source : goal.decreases-loop-source
decreases-loop-source g l = l.limit + 1 - length l.all.items
