use Rattle.std.proofs.Common.{◌≡◌, drop}
use Rattle.clv_base.specs.LogRules.{all_logs_from}
use Rattle.log_rules.specs.Agreement.{is_part_or_undone}
use Rattle.log_rules.proofs.agreement.others_are_parts.Given as goal

abbrev pub invariant-loop-shard : goal.invariant-loop-shard
invariant-loop-shard l = all_logs_from l.shard (is_part_or_undone l.tx l.home l.parts) (drop l.shard l.logs) ≡ all_logs_from 0 (is_part_or_undone l.tx l.home l.parts) l.logs
