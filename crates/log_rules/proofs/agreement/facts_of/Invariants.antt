use Rattle.std.proofs.Common.{take, map}
use Rattle.log_analysis.specs.Facts.{KnowAll}
use Rattle.log_rules.proofs.agreement.facts_of.Given as goal

abbrev pub invariant-loop-log : goal.invariant-loop-log
invariant-loop-log l = KnowAll l.facts.items (map (λ v. v.items) (take l.log-index l.logs))
