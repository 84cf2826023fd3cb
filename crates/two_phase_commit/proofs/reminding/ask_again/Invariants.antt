-- Those so far, and those of the rest, are all.
use Rattle.std.proofs.Common.{◌≡◌, ◌++◌, drop}
use Rattle.two_phase_commit.specs.Reminding.{prepares_for}
use Rattle.two_phase_commit.proofs.reminding.ask_again.Given as goal

abbrev pub invariant-loop-part : goal.invariant-loop-part
invariant-loop-part l = l.list.items ++ prepares_for l.shard l.tx (l.votes).votes (drop l.part-index l.touched) ≡ l.fn.list.items ++ prepares_for l.shard l.tx (l.votes).votes l.touched
