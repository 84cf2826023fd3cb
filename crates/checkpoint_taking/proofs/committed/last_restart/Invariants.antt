use Rattle.std.proofs.Common.{◌≡◌, drop, unwrap_or}
use Rattle.clv_base.specs.LogRules.{last_restart}
use Rattle.checkpoint_taking.proofs.committed.last_restart.Given as goal

-- of what is left, else the one so far
abbrev pub invariant-loop-r : goal.invariant-loop-r
invariant-loop-r l = unwrap_or (last_restart (drop l.r-index l.log)) l.found ≡ unwrap_or (last_restart l.log) (0, 0)
