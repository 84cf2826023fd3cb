use Rattle.std.proofs.Common.{◌≡◌, ◌+◌, drop}
use Rattle.std.specs.List.{common_prefix_len}
use Rattle.clv_base.specs.LogRules.{same_record as same}
use Rattle.shard_recovery.proofs.agreeing.agreed.Given as goal

abbrev pub invariant-loop-i : goal.invariant-loop-i
invariant-loop-i l = common_prefix_len same l.a l.b ≡ l.i + common_prefix_len same (drop l.i l.a) (drop l.i l.b)
