use Rattle.std.proofs.Common.{sym, ◌∙◌, ap}
use Rattle.clv_base.specs.Locks.{is_free}
use Rattle.lock_index.specs.Rows.{groups}
use Rattle.lock_index.proofs.Grouped.{is_free-group}
use Rattle.lock_index.proofs.hashed_locks.HashedLocksLocks.free.Goals as goal

pub returns : goal.returns
returns c = let a = c.args.anchor in
    c.is_free.ensures ∙ (sym (is_free-group a (groups c.self.inside.groups.entries) c.self.invariant.0.apart) ∙ ap (λ v. is_free a v.rows) c.self.view_is)
