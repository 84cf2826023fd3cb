use Rattle.std.proofs.Common.{◌≡◌, refl, sym, ◌∙◌, ap, [], Some, None, eqb-true}
use Rattle.std.proofs.lemmas.List.{nil_from_length}
use Rattle.std.specs.Option.{option_map_or}
use Rattle.std.specs.Map.{lookup, set_value}
use Rattle.lock_index.specs.contracts.key.KeyPartialEq.TheImpl.{eq-value}
use Rattle.lock_index.specs.Keys.{key_of}
use Rattle.lock_index.specs.Groups.{group_at}
use Rattle.lock_index.specs.Rows.{groups}
use Rattle.lock_index.specs.Writes.{leave}
use Rattle.lock_index.proofs.Firsts.{same_key, found_group}
use Rattle.lock_index.proofs.Settings.{set_groups, none_changed, not_found, group_each}
use Rattle.lock_index.proofs.groups.take_out.Goals as goal

pub returns-in_default-clause-groups : goal.returns-in_default-clause-groups
returns-in_default-clause-groups c = let a = c.args.anchor in let es = c.args.groups.now.entries in
    let gone : lookup (eq-value.it (key_of a)) es ≡ None = sym (ap (λ k. lookup (eq-value.it k) es) c.make_key.ensures) ∙ sym c.in_default.ensures.value in
    ap (λ m. groups m.entries) c.get_mut.follows.holds-at-none ∙ sym (none_changed a (leave c.args.tx) (groups es) (not_found a es gone))

pub returns-clause-groups : goal.returns-clause-groups
returns-clause-groups c = let a = c.args.anchor in let es = c.args.groups.now.entries in let v = c.in-Some.holders.now in let w = c.leave.new.holders in
    let found : lookup (eq-value.it (key_of a)) es ≡ Some v = sym (c.in-Some.ensures.value ∙ ap (λ k. lookup (eq-value.it k) es) c.make_key.ensures) in
    ap groups ((c.get_mut.follows.holds w).0 ∙ ap (λ k. set_value (eq-value.it k) es w) c.make_key.ensures)
    ∙ set_groups a (leave c.args.tx) v w c.leave.ensures es c.requires found

pub returns-clause-nobody : goal.returns-clause-nobody
returns-clause-nobody c = λ empty. let a = c.args.anchor in let es = c.args.groups.now.entries in let v = c.in-Some.holders.now in let w = c.leave.new.holders in
    let found : lookup (eq-value.it (key_of a)) es ≡ Some v = sym (c.in-Some.ensures.value ∙ ap (λ k. lookup (eq-value.it k) es) c.make_key.ensures) in
    let were : v.items ≡ group_at a (groups es) = ap (λ o. option_map_or (λ u. u.items) o []) (sym found) ∙ found_group (eq-value.it (key_of a)) a (same_key a) es in
    let none : w.items ≡ [] = nil_from_length w.items (sym w.ok.0 ∙ eqb-true w.len 0 (sym c.is_empty.ensures ∙ empty)) in
    ap (group_at a) (returns-clause-groups c) ∙ group_each a (leave c.args.tx) (groups es) refl ∙ ap (leave c.args.tx) (sym were) ∙ sym c.leave.ensures ∙ none
