use Rattle.std.proofs.Common.{◌≡◌, length, drop}
use Rattle.cluster_turns.specs.Notes.{is_noted}
use Rattle.cluster_turns.proofs.notes.Notes.is_on.Given as goal

abbrev pub invariant-loop-behind : goal.invariant-loop-behind
invariant-loop-behind l = (is_noted l.shard l.upto l.self ≡ is_noted l.shard l.upto (drop l.behind l.self)) × (l.count ≡ length l.self)
