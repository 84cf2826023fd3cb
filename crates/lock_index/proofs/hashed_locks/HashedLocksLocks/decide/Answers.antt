use Rattle.std.proofs.Common.{◌∙◌, ap}
use Rattle.clv_base.specs.Locks.{decide}
use Rattle.lock_index.specs.Rows.{groups}
use Rattle.lock_index.proofs.Oldest.{decided_visited}
use Rattle.lock_index.proofs.hashed_locks.HashedLocksLocks.decide.Goals as goal

pub returns : goal.returns
returns c = let tx = c.args.tx in let birth = c.args.birth in let needs = c.args.needs.now in
    c.decide.ensures ∙ (decided_visited tx birth needs (groups c.self.inside.groups.entries) c.self.invariant.0.apart c.self.invariant.0.rising ∙ ap (λ v. decide tx birth needs v.rows) c.self.view_is)
