use Rattle.std.proofs.Common.{suc, ◌≤◌, ap, reverse, arith}
use Rattle.clv_base.specs.Sessions.{SessionState}
use Rattle.cluster_turns.proofs.Noting.{falls_to, up_to_more}
use Rattle.cluster_turns.proofs.place.Place.died.Goals as goal

pub invariant_of-self : goal.invariant_of-self
invariant_of-self c =
    let l : c.self.inside.nth ≤ c.args.nth = (let e = ap (λ (t : SessionState). t.nth) c.self.view_is in let k = c.unnote.ensures.number in let r = c.requires in omega arith) in
    (falls_to (suc c.self.inside.nth) (suc c.args.nth) c.self.inside.written (omega arith) c.self.invariant.0, up_to_more c.self.inside.nth c.args.nth (reverse c.self.inside.backs.items) l c.self.invariant.1)
