use Rattle.std.proofs.Common.{◌≡◌, ◌≤◌, drop, length}
use Rattle.clv_base.specs.Undo.{pairs_without}
use Rattle.cascade_undo.specs.Pairs.{AreTurned, pairs_in}
use Rattle.cascade_undo.proofs.pairs.drop_all.Given as goal

abbrev pub invariant-loop-tx : goal.invariant-loop-tx
invariant-loop-tx l = record {
  pairs : pairs_without (drop l.tx-index l.set) (pairs_in (l.pairs).lists) ≡ pairs_without l.set (pairs_in (l.initial.pairs).lists);
  turned : AreTurned (pairs_in (l.pairs).lists) (pairs_in (l.turned).lists);
  few : length (pairs_in (l.pairs).lists) ≤ l.count;
  less : l.count ≤ l.initial.count;
}
