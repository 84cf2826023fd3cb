use Rattle.std.proofs.Common.{◌≡◌, take}
use Rattle.clv_audit.proofs.auditing.map_of.Given as goal

abbrev pub invariant-loop-pair : goal.invariant-loop-pair
invariant-loop-pair l = l.found ≡ take l.pair-index l.pairs
