use Rattle.std.proofs.Common.{◌≡◌, ◌-◌, drop, length}
use Rattle.log_analysis.specs.Unended.{commits_by}
use Rattle.log_analysis.proofs.unended.commits_in.Given as goal

abbrev pub invariant-loop-back : goal.invariant-loop-back
invariant-loop-back l = l.rows.entries ≡ commits_by l.facts (drop (length l.records - l.back) l.records)
