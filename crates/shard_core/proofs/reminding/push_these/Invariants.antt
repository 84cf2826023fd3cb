-- Those so far, and those of the rest, are all; each takes one place.
use Rattle.std.proofs.Common.{◌≡◌, ◌++◌, ◌+◌, drop}
use Rattle.shard_core.proofs.reminding.push_these.Given as goal

abbrev pub invariant-loop-message : goal.invariant-loop-message
invariant-loop-message l = (l.outbox.messages ++ drop l.message-index l.messages ≡ l.initial.outbox.messages ++ l.messages) × (l.initial.outbox.room ≡ l.outbox.room + l.message-index)
