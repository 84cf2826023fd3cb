use Rattle.std.proofs.Common.{◌≡◌, refl, subst, cond, None}
use Rattle.std.specs.Map.{lookup}
use Rattle.lock_index.specs.declared.key.Key.{Key}
use Rattle.lock_index.specs.contracts.key.KeyPartialEq.TheImpl.{eq-value}
use Rattle.lock_index.specs.Rows.{groups}
use Rattle.lock_index.proofs.Same.{same_rows, distinct_apart, alike_changed}
use Rattle.lock_index.proofs.groups.forget.Goals as goal

pub returns-clause-rows : goal.returns-clause-rows
returns-clause-rows c = let a = c.args.anchor in let es = c.args.groups.now.entries in let fs = c.swap_remove.new.self.entries in
    same_rows (groups fs) (groups es) (distinct_apart fs c.swap_remove.ensures.unique) c.requires.apart
    (alike_changed a es fs None (subst (λ k. (q : Key) → lookup (eq-value.it q) fs ≡ cond (eq-value.it k q) None (lookup (eq-value.it q) es)) c.make_key.ensures c.swap_remove.ensures.updates.0) refl c.requires.nobody)

pub returns-clause-apart : goal.returns-clause-apart
returns-clause-apart c = distinct_apart c.swap_remove.new.self.entries c.swap_remove.ensures.unique
