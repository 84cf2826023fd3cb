use Rattle.std.proofs.Common.{length, Option, Ok, subst}
use Rattle.turn_lock.specs.declared.gate.Batch.{Batch}
use Rattle.session_ops.specs.Rounds.{RoundRests}
use Rattle.session_ops.specs.Settled.{IsTouched}
use Rattle.session_ops.proofs.EndSeeing.{rests_follow}
use Rattle.session_ops.proofs.settling.wait_once.Goals as goal

pub returns-clause-rests : goal.returns-clause-rests
returns-clause-rests g c = let w = c.args.walker.now in let u = c.give_way.new.walker in let v = c.pass_round.new.walker in let x = c.pass_round.result in let count = length c.args.shards.now.locks.items in let Needs = IsTouched c.args.place.now.touched in
    rests_follow {A = Unit {0}} {B = Option Batch} count Needs w.number w.clock u.clock v.clock w.passes.items u.passes.items v.passes.items (Ok tt) x c.give_way.ensures.round
    (subst (λ k. RoundRests {A = Option Batch} count Needs k u.clock u.passes.items x v.clock v.passes.items) c.give_way.ensures.walker.0 c.pass_round.ensures.rests)
