use Rattle.std.proofs.Common.{[], None, sym, ◌∙◌}
use Rattle.tx_table.specs.Lists.{lists_of, list_in}
use Rattle.tx_table.proofs.Reading.{items, read_changed, kept_changed, own_same}
use Rattle.tx_table.proofs.listing.drop_list.Goals as goal

pub returns : goal.returns
returns c = λ t. let tx = c.args.tx in let es = c.args.lists.now.entries in let fs = c.remove.new.self.entries in
    read_changed items [] tx None es fs (kept_changed tx c.new.result None es fs c.new.ensures c.remove.ensures.updates.0) t ∙ own_same tx t (λ u. list_in u (lists_of es)) [] (sym c.requires)
