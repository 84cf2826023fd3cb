use Rattle.std.proofs.Common.{◌≡◌, drop}
use Rattle.clv_base.specs.LogRules.{any_log_from, is_home_of}
use Rattle.log_rules.proofs.agreement.has_home.Given as goal

abbrev pub invariant-loop-home : goal.invariant-loop-home
invariant-loop-home l = any_log_from l.home (is_home_of l.logs l.tx) (drop l.home l.logs) ≡ any_log_from 0 (is_home_of l.logs l.tx) l.logs
