use Rattle.std.proofs.Common.{[], sym, ap, ◌∙◌}
use Rattle.std.specs.Map.{lookup}
use Rattle.std.specs.Option.{option_map_or}
use Rattle.tx_table.proofs.Lookups.{same_key}
use Rattle.tx_table.proofs.Reading.{read_is}
use Rattle.tx_table.proofs.listing.on.Goals as goal

pub returns-in-Some : goal.returns-in-Some
returns-in-Some c = let es = c.args.lists.now.entries in
    c.as_slice.ensures.value ∙ ap (λ o. option_map_or (λ v. v.items) o []) (c.in-Some.ensures.value ∙ ap (λ k. lookup (same_key k) es) c.new.ensures) ∙ sym (read_is (λ v. v.items) [] c.args.tx es)

pub returns-in-None : goal.returns-in-None
returns-in-None c = let es = c.args.lists.now.entries in
    ap (λ o. option_map_or (λ v. v.items) o []) (c.in-None.ensures.value ∙ ap (λ k. lookup (same_key k) es) c.new.ensures) ∙ sym (read_is (λ v. v.items) [] c.args.tx es)
