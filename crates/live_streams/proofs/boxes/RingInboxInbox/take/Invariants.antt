use Rattle.std.proofs.Common.{◌≡◌}
use Rattle.rtrb.specs.Ring.{received, SameConsumer}
use Rattle.live_streams.proofs.boxes.RingInboxInbox.take.Given as goal

abbrev pub invariant-loop : goal.invariant-loop
invariant-loop g l = record {
  same : SameConsumer l.fn.self.lines l.self.lines;
  taken : received l.self.lines ≡ received l.fn.self.lines;
}
