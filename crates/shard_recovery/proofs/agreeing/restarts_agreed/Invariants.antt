use Rattle.std.proofs.Common.{◌≡◌, ◌-◌, suc, ◌+◌, drop}
use Rattle.std.specs.List.{common_prefix_len}
use Rattle.clv_base.specs.LogRules.{same_record as same}
use Rattle.clv_base.specs.Restarts.{restarts_up}
use Rattle.shard_recovery.proofs.agreeing.restarts_agreed.Given as goal

abbrev pub invariant-loop-i : goal.invariant-loop-i
invariant-loop-i l =
    (l.epoch ≡ l.before + l.i)
    × (common_prefix_len same l.found (restarts_up l.run (suc l.before) (l.last - l.before)) ≡ l.i + common_prefix_len same (drop l.i l.found) (restarts_up l.run (suc l.epoch) (l.last - l.epoch)))
