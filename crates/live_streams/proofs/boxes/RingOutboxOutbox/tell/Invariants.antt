use Rattle.std.proofs.Common.{◌≡◌}
use Rattle.rtrb.specs.Ring.{sent, SameProducer}
use Rattle.live_streams.proofs.boxes.RingOutboxOutbox.tell.Given as goal

abbrev pub invariant-loop : goal.invariant-loop
invariant-loop g l = record {
  same : SameProducer l.fn.self.answers l.self.answers;
  told : sent l.self.answers ≡ sent l.fn.self.answers;
  reply : l.reply ≡ l.fn.reply;
}
