use Rattle.clv_base.specs.Orders.{tx_insert}
use Rattle.law_base.proofs.Sets.{insert_rises}
use Rattle.tx_table.specs.Lists.{lists_of}
use Rattle.tx_table.proofs.Reading.{rise_changed}
use Rattle.tx_table.proofs.lists.TxLists.insert.Goals as goal

pub put_in-requires-clause-rising : goal.put_in-requires-clause-rising
put_in-requires-clause-rising c = c.self.invariant c.args.tx

pub invariant_of-self : goal.invariant_of-self
invariant_of-self c =
    rise_changed (lists_of c.self.inside.lists.entries) (lists_of c.put_in.new.lists.entries) c.args.tx (tx_insert c.args.member) c.put_in.ensures.lists (insert_rises c.args.member) c.self.invariant
