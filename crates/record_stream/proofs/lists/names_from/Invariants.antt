use Rattle.std.proofs.Common.{◌≡◌, ◌≤◌}
use Rattle.record_stream.specs.Naming.{HasRoom}
use Rattle.record_stream.specs.Scanning.{names_from, first_name}
use Rattle.record_stream.proofs.lists.names_from.Given as goal

abbrev pub invariant-loop-more : goal.invariant-loop-more
invariant-loop-more l = (l.more ≤ 1024) × HasRoom l.more l.least × (names_from l.more l.least l.rest ≡ names_from l.count first_name l.bytes)

abbrev pub decreases-loop-more : goal.decreases-loop-more
decreases-loop-more l = l.more
