use Rattle.std.proofs.Common.{List, length, ap, arith}
use Rattle.clv_base.specs.declared.names.TxId.{TxId}
use Rattle.clv_base.specs.Orders.{Table}
use Rattle.cascade_undo.specs.Pairs.{pairs_in}
use Rattle.cascade_undo.proofs.Counting.{kept_first}
use Rattle.cascade_undo.proofs.deps.Deps.new.Goals as goal

pub invariant_of-result : goal.invariant_of-result
invariant_of-result c =
    let marks = c.in_ok-marks.ensures.room in let queue = c.in_ok-queue.ensures.room in let none = ap (λ (l : Table (List TxId)). length (pairs_in l)) c.new.ensures in (
      kept_first _ _ _ _ _ _ _ c.new-4.ensures (ap pairs_in c.new.ensures) (ap pairs_in c.new-2.ensures) c.in_ok-marks.ensures.items c.in_ok-marks.ensures.room c.in_ok-queue.ensures.room,
      (omega (arith, none), omega (arith, marks), omega (arith, queue), omega arith, omega arith),
    )

pub returns-clause-pairs : goal.returns-clause-pairs
returns-clause-pairs c = ap pairs_in c.new.ensures
