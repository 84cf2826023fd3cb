use Rattle.std.proofs.Common.{◌≡◌, take, map}
use Rattle.log_rules.proofs.agreement.index_all.Given as goal

abbrev pub invariant-loop-at : goal.invariant-loop-at
invariant-loop-at l = l.indexed.items ≡ map (λ v. v.items) (take l.at l.logs)
