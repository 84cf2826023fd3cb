use Rattle.std.proofs.Common.{◌≡◌, sym, ◌∙◌, ap, subst, Some, None, ◌≤◌, ◌+◌, arith}
use Rattle.std.specs.Map.{lookup, set_value}
use Rattle.lock_index.specs.contracts.key.KeyPartialEq.TheImpl.{eq-value}
use Rattle.lock_index.specs.Keys.{key_of}
use Rattle.lock_index.specs.Groups.{NoneAt}
use Rattle.lock_index.specs.Rows.{groups, spare_on}
use Rattle.lock_index.proofs.Settings.{set_groups, set_spare, same_each, not_found}
use Rattle.lock_index.proofs.making_room.reserve_there.Goals as goal

pub returns-in_default-clause-missing : goal.returns-in_default-clause-missing
returns-in_default-clause-missing c = λ n. let a = c.args.anchor in let es = c.args.groups.now.entries in
    let gone : lookup (eq-value.it (key_of a)) es ≡ None = sym (ap (λ k. lookup (eq-value.it k) es) c.make_key.ensures) ∙ sym c.in_default.ensures.value in
    subst (λ m. NoneAt a (groups m.entries)) (sym c.get_mut.follows.holds-at-none) (not_found a es gone)

pub returns-in_default-clause-groups : goal.returns-in_default-clause-groups
returns-in_default-clause-groups c = ap (λ m. groups m.entries) c.get_mut.follows.holds-at-none

pub returns-in-Ok-clause-groups : goal.returns-in-Ok-clause-groups
returns-in-Ok-clause-groups c = let a = c.args.anchor in let es = c.args.groups.now.entries in let v = c.in-Some.holders.now in let w = c.reserve.new.self in
    let found : lookup (eq-value.it (key_of a)) es ≡ Some v = sym (c.in-Some.ensures.value ∙ ap (λ k. lookup (eq-value.it k) es) c.make_key.ensures) in
    ap groups ((c.get_mut.follows.holds w).0 ∙ ap (λ k. set_value (eq-value.it k) es w) c.make_key.ensures)
    ∙ (set_groups a (λ hs. hs) v w c.reserve.ensures.items es c.requires found ∙ same_each a (groups es))

pub returns-in-Ok-clause-room : goal.returns-in-Ok-clause-room
returns-in-Ok-clause-room c = λ b. let a = c.args.anchor in let es = c.args.groups.now.entries in let v = c.in-Some.holders.now in let w = c.reserve.new.self in
    let found : lookup (eq-value.it (key_of a)) es ≡ Some v = sym (c.in-Some.ensures.value ∙ ap (λ k. lookup (eq-value.it k) es) c.make_key.ensures) in
    let less : spare_on b es ≤ spare_on b (set_value (eq-value.it (key_of a)) es w) + 0 = set_spare a v w 0 (omega (arith, c.reserve.ensures.len, c.reserve.ensures.capacity)) b es found in
    subst (λ fs. spare_on b es ≤ spare_on b fs) (sym ((c.get_mut.follows.holds w).0 ∙ ap (λ k. set_value (eq-value.it k) es w) c.make_key.ensures)) (omega (arith, less))

pub returns-in-Err-clause-groups : goal.returns-in-Err-clause-groups
returns-in-Err-clause-groups c = let a = c.args.anchor in let es = c.args.groups.now.entries in let v = c.in-Some.holders.now in let w = c.reserve.new.self in
    let found : lookup (eq-value.it (key_of a)) es ≡ Some v = sym (c.in-Some.ensures.value ∙ ap (λ k. lookup (eq-value.it k) es) c.make_key.ensures) in
    ap groups ((c.get_mut.follows.holds w).0 ∙ ap (λ k. set_value (eq-value.it k) es w) c.make_key.ensures)
    ∙ (set_groups a (λ hs. hs) v w c.reserve.ensures.items es c.requires found ∙ same_each a (groups es))

pub returns-in-Err-clause-room : goal.returns-in-Err-clause-room
returns-in-Err-clause-room c = λ b. let a = c.args.anchor in let es = c.args.groups.now.entries in let v = c.in-Some.holders.now in let w = c.reserve.new.self in
    let found : lookup (eq-value.it (key_of a)) es ≡ Some v = sym (c.in-Some.ensures.value ∙ ap (λ k. lookup (eq-value.it k) es) c.make_key.ensures) in
    let less : spare_on b es ≤ spare_on b (set_value (eq-value.it (key_of a)) es w) + 0 = set_spare a v w 0 (omega (arith, c.reserve.ensures.len, c.reserve.ensures.capacity)) b es found in
    subst (λ fs. spare_on b es ≤ spare_on b fs) (sym ((c.get_mut.follows.holds w).0 ∙ ap (λ k. set_value (eq-value.it k) es w) c.make_key.ensures)) (omega (arith, less))
