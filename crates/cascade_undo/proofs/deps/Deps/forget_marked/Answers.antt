use Rattle.std.proofs.Common.{◌<◌, ◌+◌, cond, None, List, length, sym, ap, subst, ◌∙◌, arith}
use Rattle.std.specs.List.Sorted.{IsStrictlySortedBy}
use Rattle.std.specs.Vec.{vec_capacity}
use Rattle.clv_base.specs.declared.names.TxId.{TxId}
use Rattle.clv_base.specs.Orders.{tx_cmp, tx_in, tx_get}
use Rattle.cascade_undo.specs.Pairs.{pairs_in}
use Rattle.cascade_undo.specs.Counts.{AreCounted}
use Rattle.cascade_undo.proofs.Counting.{counted_without}
use Rattle.cascade_undo.proofs.Listed.{in_rise, turned_few}
use Rattle.cascade_undo.proofs.Turning.{none_rise}
use Rattle.cascade_undo.proofs.deps.Deps.forget_marked.Goals as goal

pub invariant_of-self : goal.invariant_of-self
invariant_of-self c =
    let e = c.drop_all.ensures in let k = c.self.invariant.0 in let left = c.self.invariant.1 in
    let lists = c.drop_all.new.pairs.lists in let turned = c.drop_all.new.turned.lists in
    let few = turned_few (pairs_in lists) (pairs_in turned) e.turned (in_rise turned) in let count = e.few in let less = e.less in let marks = left.1 in let queue = left.2 in
    let cleared = c.clear.ensures.capacity in
    let marks_room : length (pairs_in turned) + 1 < vec_capacity c.clear.new.self = omega (arith, few, count, less, marks, cleared) in
    let queue_room : length (pairs_in turned) + 1 < vec_capacity c.self.inside.queue = omega (arith, few, count, less, queue) in
    let marks_rise = subst (IsStrictlySortedBy tx_cmp) (sym c.clear.ensures.items) none_rise in
    let commits = c.self.inside.commits.rows in let rows = c.self.inside.waits.rows in let after = c.drop_rows.new.rows.rows in let set = c.deref.result.now in
    let same = c.deref-2.ensures.value ∙ sym c.deref.ensures.value in
    let counted = subst (λ (ps : List (TxId × TxId)). AreCounted ps commits after) (sym e.pairs)
    (counted_without (pairs_in c.self.inside.preds.lists) commits rows after k.counted set (λ t. c.drop_rows.ensures.rows t ∙ ap (λ (l : List TxId). cond (tx_in t l) None (tx_get t rows)) same)) in
    let third = c.drop_rows.ensures.room in let rows_left = left.3 in (
      record { pairs_rise = in_rise lists; turned_rise = in_rise turned; turned_round = e.turned; marks_rise = marks_rise; marks_room = marks_room; queue_room = queue_room; counted = counted },
      (e.few, omega (arith, marks, less, cleared), omega (arith, queue, less), omega (arith, rows_left, third), left.4),
    )
