use Rattle.std.proofs.Common.{subst}
use Rattle.std.specs.List.Sorted.{IsStrictlySortedBy}
use Rattle.clv_base.specs.Orders.{tx_cmp}
use Rattle.tx_table.specs.Lists.{ListRows, list_in}
use Rattle.tx_table.proofs.lists.TxLists.get.Goals as goal

pub returns-clause-rising : goal.returns-clause-rising
returns-clause-rising c = subst (λ (l : ListRows). IsStrictlySortedBy tx_cmp (list_in c.args.tx l.lists)) c.self.view_is (c.self.invariant c.args.tx)
