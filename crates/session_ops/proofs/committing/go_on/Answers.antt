use Rattle.std.proofs.Common.{◌∙◌, Err, ap, length, sym, subst}
use Rattle.clv_base.specs.Sessions.{Ended}
use Rattle.session_ops.specs.Committed.{Answering, Following}
use Rattle.session_ops.proofs.ScanAsking.{follows_none}
use Rattle.session_ops.proofs.Deciding.{stands_in, left_ended}
use Rattle.session_ops.proofs.committing.go_on.Goals as goal

pub returns-in-Refuses-clause-turns : goal.returns-in-Refuses-clause-turns
returns-in-Refuses-clause-turns g c = let w = c.args.walker.now in let p = c.args.place.now in
    subst (λ y. Following (length c.args.shards.now.locks.items) w.number w.clock w.passes.items c.args.home p c.args.asked y (Err c.in-Refuses.error) w.clock w.passes.items p) (sym c.in-Refuses.is)
    (follows_none c.args.shards.now w c.args.home p c.args.asked c.in-Refuses.error)

pub returns-in-Leaves-clause-stands : goal.returns-in-Leaves-clause-stands
returns-in-Leaves-clause-stands g c = let w = c.args.walker.now in let v = c.leave_others.new.walker in let p = c.args.place.now in let q = c.leave_others.new.place in let l = c.leave_others.ensures in
    let a = subst (λ y. Answering c.args.shards.now w p c.args.home y) c.in-Leaves.is c.requires.answering in
    stands_in c.args.shards.now v q Ended (ap (λ z. z.phase) l.place ∙ a.1) (left_ended c.args.shards.now w v p q c.args.home a.0.over.born a.2 l.drops l.place l.stands)
