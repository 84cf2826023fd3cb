use Rattle.std.proofs.Common.{◌≡◌, sym, ◌∙◌, ap, subst, Some, ◌≤◌, ◌+◌, arith}
use Rattle.std.specs.Map.{lookup, set_value}
use Rattle.lock_index.specs.contracts.key.KeyPartialEq.TheImpl.{eq-value}
use Rattle.lock_index.specs.Keys.{key_of}
use Rattle.lock_index.specs.Groups.{Apart, rows_of}
use Rattle.lock_index.specs.Rows.{groups, spare_on}
use Rattle.lock_index.specs.Writes.{take_here, there}
use Rattle.lock_index.proofs.GroupWrites.{take_one-groups}
use Rattle.lock_index.proofs.Settings.{set_groups, set_spare, room_is, no_spare, apart_each}
use Rattle.lock_index.proofs.groups.put_on.Goals as goal

pub put-requires : goal.put-requires
put-requires c = let a = c.args.anchor in let es = c.args.groups.now.entries in
    let found : lookup (eq-value.it (key_of a)) es ≡ Some c.in-Some.holders.now = sym (c.in-Some.ensures.value ∙ ap (λ k. lookup (eq-value.it k) es) c.make_key.ensures) in
    omega (arith, room_is a es c.in-Some.holders.now found, c.requires.room)

pub returns-clause-rows : goal.returns-clause-rows
returns-clause-rows c = let a = c.args.anchor in let es = c.args.groups.now.entries in let v = c.in-Some.holders.now in let w = c.put.new.holders in
    let found : lookup (eq-value.it (key_of a)) es ≡ Some v = sym (c.in-Some.ensures.value ∙ ap (λ k. lookup (eq-value.it k) es) c.make_key.ensures) in
    ap (λ l. rows_of (groups l)) ((c.get_mut.follows.holds w).0 ∙ ap (λ k. set_value (eq-value.it k) es w) c.make_key.ensures)
    ∙ (ap rows_of (set_groups a (take_here c.args.holder) v w c.put.ensures.holders es c.requires.apart found)
    ∙ sym (take_one-groups a c.args.holder (groups es) c.requires.apart (λ n. (let none = no_spare a es n in let some = c.requires.room in absurd (omega arith)))))

pub returns-clause-apart : goal.returns-clause-apart
returns-clause-apart c = let a = c.args.anchor in let es = c.args.groups.now.entries in let v = c.in-Some.holders.now in let w = c.put.new.holders in
    let found : lookup (eq-value.it (key_of a)) es ≡ Some v = sym (c.in-Some.ensures.value ∙ ap (λ k. lookup (eq-value.it k) es) c.make_key.ensures) in
    subst Apart (sym (ap groups ((c.get_mut.follows.holds w).0 ∙ ap (λ k. set_value (eq-value.it k) es w) c.make_key.ensures)
    ∙ set_groups a (take_here c.args.holder) v w c.put.ensures.holders es c.requires.apart found)) (apart_each (there a (take_here c.args.holder)) (groups es) c.requires.apart)

pub returns-clause-room : goal.returns-clause-room
returns-clause-room c = λ b. let a = c.args.anchor in let es = c.args.groups.now.entries in let v = c.in-Some.holders.now in let w = c.put.new.holders in
    let found : lookup (eq-value.it (key_of a)) es ≡ Some v = sym (c.in-Some.ensures.value ∙ ap (λ k. lookup (eq-value.it k) es) c.make_key.ensures) in
    subst (λ fs. spare_on b es ≤ spare_on b fs + 1) (sym ((c.get_mut.follows.holds w).0 ∙ ap (λ k. set_value (eq-value.it k) es w) c.make_key.ensures))
    (set_spare a v w 1 (omega (arith, c.put.ensures.room.0, c.put.ensures.room.1)) b es found)
