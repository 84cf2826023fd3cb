use Rattle.std.proofs.Common.{List, not}
use Rattle.std.specs.List.{filter}
use Rattle.clv_base.specs.declared.names.TxId.{TxId}
use Rattle.clv_base.specs.Orders.{tx_same}
use Rattle.law_base.proofs.Sets.{filter_rises}
use Rattle.tx_table.specs.Lists.{lists_of}
use Rattle.tx_table.proofs.Reading.{rise_changed}
use Rattle.tx_table.proofs.lists.TxLists.leave.Goals as goal

pub leave_in-requires : goal.leave_in-requires
leave_in-requires c = c.self.invariant c.args.tx

pub invariant_of-self : goal.invariant_of-self
invariant_of-self c =
    rise_changed (lists_of c.self.inside.lists.entries) (lists_of c.leave_in.new.lists.entries) c.args.tx (λ (xs : List TxId). filter (λ x. not (tx_same x c.args.member)) xs) c.leave_in.ensures
    (filter_rises (λ x. not (tx_same x c.args.member))) c.self.invariant
