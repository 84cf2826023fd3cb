use Rattle.std.proofs.Common.{◌∙◌}
use Rattle.tx_table.proofs.listing.leave_in.Goals as goal

pub drop_list-requires : goal.drop_list-requires
drop_list-requires c = c.take_out.ensures.nobody c.if-take_out.true

pub returns-then-take_out : goal.returns-then-take_out
returns-then-take_out c = λ t. c.drop_list.ensures t ∙ c.take_out.ensures.lists t
