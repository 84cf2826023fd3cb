-- The marks still rise.
use Rattle.std.proofs.Common.{List, not, sym, subst, arith}
use Rattle.std.specs.List.Sorted.{IsStrictlySortedBy}
use Rattle.clv_base.specs.declared.names.TxId.{TxId}
use Rattle.clv_base.specs.Orders.{tx_cmp, tx_same}
use Rattle.law_base.proofs.Sets.{filter_rises}
use Rattle.cascade_undo.proofs.deps.Deps.unmark.Goals as goal

pub invariant_of-self : goal.invariant_of-self
invariant_of-self c =
    let k = c.self.invariant.0 in let p = c.self.invariant.1 in let e = c.drop_one.ensures in (
      record {
        pairs_rise = k.pairs_rise;
        turned_rise = k.turned_rise;
        turned_round = k.turned_round;
        marks_rise = subst (λ (l : List TxId). IsStrictlySortedBy tx_cmp l) (sym e.items) (filter_rises (λ t. not (tx_same c.args.tx t)) c.self.inside.marks.items k.marks_rise);
        marks_room = omega (arith, k.marks_room, e.room);
        queue_room = k.queue_room;
        counted = k.counted;
      },
      (p.0, omega (arith, p.1, e.room), p.2, p.3, p.4),
    )
