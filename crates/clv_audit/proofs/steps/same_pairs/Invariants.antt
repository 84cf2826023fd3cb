use Rattle.std.proofs.Common.{◌≡◌, take}
use Rattle.clv_audit.proofs.steps.same_pairs.Given as goal

abbrev pub invariant-loop-i : goal.invariant-loop-i
invariant-loop-i l = take l.i l.told ≡ take l.i l.found
