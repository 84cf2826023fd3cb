use Rattle.log_rules.proofs.Steps.{Settling}
use Rattle.log_rules.proofs.writes.Writes.settle.Given as goal

abbrev pub invariant-loop-step : goal.invariant-loop-step
invariant-loop-step l = Settling l.fn.self l.self l.lsn l.tx l._step l.at
