use Rattle.std.proofs.Common.{◌≡◌, ℕ, take}
use Rattle.checkpoint_taking.specs.Lsns.{has_lsn, lsn_in}
use Rattle.checkpoint_taking.proofs.lsns.LsnSet.of.Given as goal

abbrev pub invariant-loop-lsn : goal.invariant-loop-lsn
invariant-loop-lsn l = (n : ℕ) → has_lsn l.set n ≡ lsn_in n (take l.lsn-index l.lsns)
