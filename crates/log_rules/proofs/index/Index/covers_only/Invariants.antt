use Rattle.std.proofs.Common.{◌≡◌, ◌-◌}
use Rattle.log_rules.specs.Rules.{all_clear_from, all_clear}
use Rattle.log_rules.proofs.index.Index.covers_only.Given as goal

abbrev pub invariant-loop-step : goal.invariant-loop-step
invariant-loop-step l = all_clear_from l.self l.tx l.listed l.lsn (l.lsn - l._step) l.at ≡ all_clear l.self l.tx l.listed l.lsn
