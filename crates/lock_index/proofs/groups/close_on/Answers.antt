use Rattle.std.proofs.Common.{◌≡◌, sym, ◌∙◌, ap, subst, Some, None, map, length, ◌≤◌, ◌+◌, arith}
use Rattle.std.specs.Map.{lookup, set_value}
use Rattle.std.specs.Vec.{with_items}
use Rattle.std.proofs.lemmas.List.{length-map, with_items_is}
use Rattle.clv_base.specs.Locks.{close_holder}
use Rattle.lock_index.specs.contracts.key.KeyPartialEq.TheImpl.{eq-value}
use Rattle.lock_index.specs.Keys.{key_of}
use Rattle.lock_index.specs.Rows.{groups, spare_on}
use Rattle.lock_index.proofs.Settings.{set_groups, set_spare, none_changed, not_found}
use Rattle.lock_index.proofs.groups.close_on.Goals as goal

pub returns-in_default-clause-groups : goal.returns-in_default-clause-groups
returns-in_default-clause-groups c = let a = c.args.anchor in let es = c.args.groups.now.entries in
    let gone : lookup (eq-value.it (key_of a)) es ≡ None = sym (ap (λ k. lookup (eq-value.it k) es) c.make_key.ensures) ∙ sym c.in_default.ensures.value in
    ap (λ m. groups m.entries) c.get_mut.follows.holds-at-none ∙ sym (none_changed a (map (close_holder c.args.tx)) (groups es) (not_found a es gone))

pub returns-clause-groups : goal.returns-clause-groups
returns-clause-groups c = let a = c.args.anchor in let es = c.args.groups.now.entries in let v = c.in-Some.holders.now in let w = with_items v c.close.new.holders in
    let found : lookup (eq-value.it (key_of a)) es ≡ Some v = sym (c.in-Some.ensures.value ∙ ap (λ k. lookup (eq-value.it k) es) c.make_key.ensures) in
    let its : c.close.new.holders ≡ map (close_holder c.args.tx) v.items = c.close.ensures ∙ ap (map (close_holder c.args.tx)) c.deref_mut.ensures.value in
    let len : length c.close.new.holders ≡ v.len = ap length its ∙ (length-map v.items (close_holder c.args.tx) ∙ sym v.ok.0) in
    ap groups ((c.get_mut.follows.holds w).0 ∙ ap (λ k. set_value (eq-value.it k) es w) c.make_key.ensures)
    ∙ set_groups a (map (close_holder c.args.tx)) v w (with_items_is v c.close.new.holders len ∙ its) es c.requires found

pub returns-clause-room : goal.returns-clause-room
returns-clause-room c = λ b. let a = c.args.anchor in let es = c.args.groups.now.entries in let v = c.in-Some.holders.now in let w = with_items v c.close.new.holders in
    let found : lookup (eq-value.it (key_of a)) es ≡ Some v = sym (c.in-Some.ensures.value ∙ ap (λ k. lookup (eq-value.it k) es) c.make_key.ensures) in
    let less : spare_on b es ≤ spare_on b (set_value (eq-value.it (key_of a)) es w) + 0 = set_spare a v w 0 (omega arith) b es found in
    subst (λ fs. spare_on b es ≤ spare_on b fs) (sym ((c.get_mut.follows.holds w).0 ∙ ap (λ k. set_value (eq-value.it k) es w) c.make_key.ensures)) (omega (arith, less))
