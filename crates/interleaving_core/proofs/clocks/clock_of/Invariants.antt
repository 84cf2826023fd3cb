use Rattle.std.proofs.Common.{◌≡◌, max, drop}
use Rattle.clv_base.specs.Core.{clock_of}
use Rattle.interleaving_core.proofs.clocks.clock_of.Given as goal

abbrev pub invariant-loop-placed : goal.invariant-loop-placed
invariant-loop-placed l = max l.clock (clock_of l.walker (drop l.placed-index l.history)) ≡ clock_of l.walker l.history
