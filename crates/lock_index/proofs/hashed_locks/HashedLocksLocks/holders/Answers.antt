use Rattle.std.proofs.Common.{◌≡◌, sym, ◌∙◌, ap, subst, IfOk}
use Rattle.lock_table.specs.Rows.{holders_on}
use Rattle.lock_index.specs.Rows.{groups}
use Rattle.lock_index.proofs.Grouped.{holders_on-group}
use Rattle.lock_index.proofs.hashed_locks.HashedLocksLocks.holders.Goals as goal

pub returns : goal.returns
returns c = let a = c.args.anchor in
    subst (λ hs. IfOk c.holders.result (λ on. on.items ≡ hs)) (sym (holders_on-group a (groups c.self.inside.groups.entries) c.self.invariant.0.apart) ∙ ap (λ v. holders_on a v.rows) c.self.view_is) c.holders.ensures
