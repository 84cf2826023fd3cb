use Rattle.std.proofs.Common.{[], None, sym, ap, ◌∙◌}
use Rattle.std.specs.Map.{lookup}
use Rattle.std.specs.Option.{option_map_or}
use Rattle.tx_table.proofs.Lookups.{same_key}
use Rattle.tx_table.proofs.Reading.{items, read_is, read_changed, kept_changed}
use Rattle.tx_table.proofs.listing.take_list.Goals as goal

pub returns-clause-taken : goal.returns-clause-taken
returns-clause-taken c = let es = c.args.lists.now.entries in
    ap (λ o. option_map_or items o []) (c.remove.ensures.value ∙ ap (λ k. lookup (same_key k) es) c.new.ensures) ∙ sym (read_is items [] c.args.tx es)

pub returns-clause-lists : goal.returns-clause-lists
returns-clause-lists c = λ t. let tx = c.args.tx in let es = c.args.lists.now.entries in let fs = c.remove.new.self.entries in
    read_changed items [] tx None es fs (kept_changed tx c.new.result None es fs c.new.ensures c.remove.ensures.updates.0) t
