use Rattle.std.proofs.Common.{◌∙◌, ap, []}
use Rattle.std.specs.Option.{option_map_or}
use Rattle.std.specs.Map.{lookup}
use Rattle.lock_index.specs.contracts.key.KeyPartialEq.TheImpl.{eq-value}
use Rattle.lock_index.specs.Keys.{key_of}
use Rattle.lock_index.proofs.Firsts.{same_key, found_group}
use Rattle.lock_index.proofs.groups.on.Goals as goal

pub returns-in-Some : goal.returns-in-Some
returns-in-Some c = let a = c.args.anchor in let es = c.args.groups.now.entries in
    c.as_slice.ensures.value ∙ ap (λ o. option_map_or (λ v. v.items) o []) (c.in-Some.ensures.value ∙ ap (λ k. lookup (eq-value.it k) es) c.make_key.ensures)
    ∙ found_group (eq-value.it (key_of a)) a (same_key a) es

pub returns-in-None : goal.returns-in-None
returns-in-None c = let a = c.args.anchor in let es = c.args.groups.now.entries in
    ap (λ o. option_map_or (λ v. v.items) o []) (c.in-None.ensures.value ∙ ap (λ k. lookup (eq-value.it k) es) c.make_key.ensures)
    ∙ found_group (eq-value.it (key_of a)) a (same_key a) es
