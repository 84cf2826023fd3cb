use Rattle.std.proofs.Common.{◌≡◌, ◌-◌, ◌++◌, length}
use Rattle.log_rules.specs.Listers.{listers_from, listers_in}
use Rattle.log_rules.proofs.listers.Listers.of.Given as goal

abbrev pub invariant-loop-step : goal.invariant-loop-step
invariant-loop-step l = l.txs.items ++ listers_from l.self.all.items (length l.self.all.items - l._step) l.place ≡ listers_in l.self l.fn.listed
