use Rattle.std.proofs.Common.{Ok, sym, subst}
use Rattle.session_ops.specs.Rounds.{Rounded}
use Rattle.session_ops.proofs.EndPassing.{still_standing}
use Rattle.session_ops.proofs.EndSeeing.{looked_round}
use Rattle.session_ops.proofs.waiting.horizon_at.Goals as goal

pub returns-clause-round : goal.returns-clause-round
returns-clause-round g c = let w = c.args.walker.now in let v = c.horizon_of.new.walker in let h = c.horizon_of.result in
    subst (λ k. Rounded w.number w.clock w.passes.items (Ok h) k v.passes.items) (sym c.horizon_of.ensures.walker.2) (looked_round w.number w.clock w.passes.items v.passes.items c.args.home h h c.horizon_of.ensures.horizon)

pub returns-clause-stands : goal.returns-clause-stands
returns-clause-stands g c = let w = c.args.walker.now in let v = c.horizon_of.new.walker in
    let r = returns-clause-round g c in
    still_standing c.args.shards.now w v c.args.place.now c.args.home r.turns r.took r.others c.horizon_of.ensures.walker.0 c.horizon_of.ensures.walker.1 c.requires.standing
