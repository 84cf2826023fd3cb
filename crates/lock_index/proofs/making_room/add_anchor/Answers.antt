use Rattle.std.proofs.Common.{◌≡◌, sym, ◌∙◌, ap, subst, cond, Some, arith}
use Rattle.std.specs.Map.{lookup}
use Rattle.lock_index.specs.declared.key.Key.{Key}
use Rattle.lock_index.specs.contracts.key.KeyPartialEq.TheImpl.{eq-value}
use Rattle.lock_index.specs.Keys.{key_of}
use Rattle.lock_index.specs.Rows.{groups}
use Rattle.lock_index.proofs.Grouped.{no_group}
use Rattle.lock_index.proofs.Settings.{room_is}
use Rattle.lock_index.proofs.Same.{same_rows, distinct_apart, alike_changed, lookup_none, spare_changed}
use Rattle.lock_index.proofs.making_room.add_anchor.Goals as goal

pub returns-in-Ok-insert-clause-ok : goal.returns-in-Ok-insert-clause-ok
returns-in-Ok-insert-clause-ok c = let a = c.args.anchor in let fs = c.insert.new.self.entries in
    let found : lookup (eq-value.it (key_of a)) fs ≡ Some c.reserve.new.self = sym (ap (λ k. lookup (eq-value.it k) fs) c.make_key.ensures) ∙ c.in-Ok-insert.ensures.updates.1 in
    omega (arith, room_is a fs c.reserve.new.self found, c.in-Ok.ensures.ok)

pub returns-in-Ok-insert-clause-rows : goal.returns-in-Ok-insert-clause-rows
returns-in-Ok-insert-clause-rows c = let a = c.args.anchor in let es = c.args.groups.now.entries in let fs = c.insert.new.self.entries in let w = c.reserve.new.self in
    same_rows (groups fs) (groups es) (distinct_apart fs c.insert.ensures.unique) c.requires.apart
    (alike_changed a es fs (Some w) (subst (λ k. (q : Key) → lookup (eq-value.it q) fs ≡ cond (eq-value.it k q) (Some w) (lookup (eq-value.it q) es)) c.make_key.ensures c.in-Ok-insert.ensures.updates.0) (c.reserve.ensures.items ∙ c.new-holders.ensures.items) (no_group a (groups es) c.requires.missing))

pub returns-in-Ok-insert-clause-apart : goal.returns-in-Ok-insert-clause-apart
returns-in-Ok-insert-clause-apart c = distinct_apart c.insert.new.self.entries c.insert.ensures.unique

pub returns-in-Ok-insert-clause-room : goal.returns-in-Ok-insert-clause-room
returns-in-Ok-insert-clause-room c = let a = c.args.anchor in let es = c.args.groups.now.entries in let fs = c.insert.new.self.entries in let w = c.reserve.new.self in
    spare_changed a es fs (Some w) (subst (λ k. (q : Key) → lookup (eq-value.it q) fs ≡ cond (eq-value.it k q) (Some w) (lookup (eq-value.it q) es)) c.make_key.ensures c.in-Ok-insert.ensures.updates.0) (lookup_none a es c.requires.missing)
