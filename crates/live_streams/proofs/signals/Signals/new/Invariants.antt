use Rattle.std.proofs.Common.{◌≡◌, ◌≤◌, vec_len, vec_capacity}
use Rattle.live_streams.proofs.signals.Signals.new.Given as goal

abbrev pub invariant-loop : goal.invariant-loop
invariant-loop l = record {
  len : vec_len l.lanes ≡ l.counter;
  room : l.end ≤ vec_capacity l.lanes;
}
