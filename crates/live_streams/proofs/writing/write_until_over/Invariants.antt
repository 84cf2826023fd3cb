use Rattle.std.proofs.Common.{◌≡◌, [], Ok}
use Rattle.live_streams.specs.Written.{Writes}
use Rattle.live_streams.proofs.writing.write_until_over.Given as goal

abbrev pub invariant-loop : goal.invariant-loop
invariant-loop g l = record {
  took : Writes l.fn.all.items l.all.items (g.K.Sink.taken l.fn.sink) (g.K.Sink.taken l.sink) (Ok (tt {0}));
  text : l.text.items ≡ [];
  faults : g.K.Sink.faults l.sink ≡ g.K.Sink.faults l.fn.sink;
}
