use Rattle.std.proofs.Common.{◌≡◌, [], drop, map}
use Rattle.log_rules.specs.Committed.{with_all_commits}
use Rattle.log_rules.proofs.commits.all_commits.Given as goal

abbrev pub invariant-loop-log : goal.invariant-loop-log
invariant-loop-log l = with_all_commits (map (λ v. v.items) (drop l.log-index l.logs)) l.set ≡ with_all_commits (map (λ v. v.items) l.logs) []
