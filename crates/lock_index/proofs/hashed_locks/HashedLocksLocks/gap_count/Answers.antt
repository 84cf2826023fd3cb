use Rattle.std.proofs.Common.{sym, ◌∙◌, ap}
use Rattle.lock_table.specs.Rows.{gaps_held}
use Rattle.lock_index.specs.Rows.{groups}
use Rattle.lock_index.proofs.Grouped.{gaps_held-group}
use Rattle.lock_index.proofs.hashed_locks.HashedLocksLocks.gap_count.Goals as goal

pub returns : goal.returns
returns c = let a = c.args.anchor in
    c.gap_count.ensures ∙ (sym (gaps_held-group a (groups c.self.inside.groups.entries) c.self.invariant.0.apart) ∙ ap (λ v. gaps_held a v.rows) c.self.view_is)
