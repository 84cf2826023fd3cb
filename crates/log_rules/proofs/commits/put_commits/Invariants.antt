use Rattle.std.proofs.Common.{◌≡◌, drop}
use Rattle.log_rules.specs.Committed.{with_commits}
use Rattle.log_rules.proofs.commits.put_commits.Given as goal

abbrev pub invariant-loop-r : goal.invariant-loop-r
invariant-loop-r l = with_commits (drop l.r-index l.log) l.set ≡ with_commits l.log l.fn.set
