use Rattle.std.proofs.Common.{sym, ◌∙◌, eqb-true, length}
use Rattle.std.proofs.lemmas.List.{nil_from_length}
use Rattle.tx_table.proofs.listing.drop_empty.Goals as goal

pub drop_list-requires : goal.drop_list-requires
drop_list-requires c = sym c.on.ensures ∙ nil_from_length c.on.result.now (eqb-true (length c.on.result.now) 0 (sym c.is_empty.ensures ∙ c.if-is_empty.true))
