use Rattle.std.proofs.Common.{List, [], subst}
use Rattle.std.specs.List.Sorted.{IsStrictlySortedBy}
use Rattle.clv_base.specs.Orders.{tx_cmp}
use Rattle.clv_base.specs.declared.names.TxId.{TxId}
use Rattle.law_base.proofs.Sets.{nothing_rises}
use Rattle.tx_table.specs.Lists.{ListRows, lists_of, list_in}
use Rattle.tx_table.proofs.Reading.{rise_changed}
use Rattle.tx_table.proofs.lists.TxLists.take.Goals as goal

pub invariant_of-self : goal.invariant_of-self
invariant_of-self c =
    rise_changed (lists_of c.self.inside.lists.entries) (lists_of c.take_list.new.lists.entries) c.args.tx (λ (xs : List TxId). []) c.take_list.ensures.lists (λ xs s. nothing_rises) c.self.invariant

pub returns-clause-rising : goal.returns-clause-rising
returns-clause-rising c = subst (λ (l : ListRows). IsStrictlySortedBy tx_cmp (list_in c.args.tx l.lists)) c.self.view_is (c.self.invariant c.args.tx)
