use Rattle.std.proofs.Common.{◌≡◌, ◌≤◌, ◌+◌}
use Rattle.record_stream.specs.Scanning.{shards_from}
use Rattle.record_stream.proofs.lists.shards_from.Given as goal

abbrev pub invariant-loop-more : goal.invariant-loop-more
invariant-loop-more l = (l.least + l.more ≤ 16) × (shards_from l.more l.least l.rest ≡ shards_from l.count 0 l.bytes)

abbrev pub decreases-loop-more : goal.decreases-loop-more
decreases-loop-more l = l.more
