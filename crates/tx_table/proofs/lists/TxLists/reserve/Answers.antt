use Rattle.tx_table.specs.Lists.{lists_of}
use Rattle.tx_table.proofs.Reading.{rise_alike}
use Rattle.tx_table.proofs.lists.TxLists.reserve.Goals as goal

pub invariant_of-self : goal.invariant_of-self
invariant_of-self c = rise_alike (lists_of c.self.inside.lists.entries) (lists_of c.reserve_in.new.lists.entries) c.reserve_in.ensures.lists c.self.invariant
