-- The messages so far, and those to the rest, are all.
use Rattle.std.proofs.Common.{◌≡◌, ◌++◌, ◌+◌, ◌≤◌, drop, length}
use Rattle.due_step.specs.Sent.{decide_all}
use Rattle.due_step.proofs.telling.tell_all.Given as goal

abbrev pub invariant-loop-to : goal.invariant-loop-to
invariant-loop-to l = record {
  same : l.outbox.messages ++ decide_all l.tx l.home l.commit (drop l.to-index l.to-items) ≡ l.initial.outbox.messages ++ decide_all l.tx l.home l.commit l.to-items;
  room : l.outbox.room + l.to-index ≡ l.initial.outbox.room;
  few : length l.to-items ≤ 15;
  enough : 15 ≤ l.initial.outbox.room;
}
