use Rattle.std.proofs.Common.{List, sym, subst, arith}
use Rattle.std.specs.List.Sorted.{IsStrictlySortedBy}
use Rattle.clv_base.specs.declared.names.TxId.{TxId}
use Rattle.clv_base.specs.Orders.{tx_cmp}
use Rattle.tx_table.proofs.Keeping.{rest_rises}
use Rattle.tx_table.proofs.candidates.Candidates.leave_first.Goals as goal

pub invariant_of-self : goal.invariant_of-self
invariant_of-self c =
    let e = c.pop_front.ensures in let i = c.self.invariant in
    (subst (λ (l : List TxId). IsStrictlySortedBy tx_cmp l) (sym e.rest) (rest_rises c.self.inside.txs.items i.0), omega (arith, e.len, i.1), omega (arith, e.capacity, i.2))
