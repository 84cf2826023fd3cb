use Rattle.std.proofs.Common.{◌<◌, ◌+◌, List, length, sym, subst, arith}
use Rattle.std.specs.Vec.{vec_capacity}
use Rattle.clv_base.specs.declared.names.TxId.{TxId}
use Rattle.cascade_undo.specs.Pairs.{pairs_in}
use Rattle.cascade_undo.specs.Counts.{AreCounted}
use Rattle.cascade_undo.proofs.Counting.{counted_without_one}
use Rattle.cascade_undo.proofs.Listed.{in_rise, turned_few}
use Rattle.cascade_undo.proofs.deps.Deps.forget.Goals as goal

pub invariant_of-self : goal.invariant_of-self
invariant_of-self c =
    let e = c.drop_own.ensures in let k = c.self.invariant.0 in let left = c.self.invariant.1 in
    let lists = c.drop_own.new.pairs.lists in let turned = c.drop_own.new.turned.lists in
    let few = turned_few (pairs_in lists) (pairs_in turned) e.turned (in_rise turned) in let count = e.few in let less = e.less in let marks = left.1 in let queue = left.2 in
    let marks_room : length (pairs_in turned) + 1 < vec_capacity c.self.inside.marks = omega (arith, few, count, less, marks) in
    let queue_room : length (pairs_in turned) + 1 < vec_capacity c.self.inside.queue = omega (arith, few, count, less, queue) in
    let commits = c.self.inside.commits.rows in let after = c.remove.new.self.rows in
    let counted = subst (λ (ps : List (TxId × TxId)). AreCounted ps commits after) (sym e.pairs)
    (counted_without_one (pairs_in c.self.inside.preds.lists) commits c.self.inside.waits.rows after k.counted c.args.tx c.remove.ensures.rows) in
    let third = c.remove.ensures.room in let rows = left.3 in (
      record { pairs_rise = in_rise lists; turned_rise = in_rise turned; turned_round = e.turned; marks_rise = k.marks_rise; marks_room = marks_room; queue_room = queue_room; counted = counted },
      (e.few, omega (arith, marks, less), omega (arith, queue, less), omega (arith, rows, third), left.4),
    )
