use Rattle.std.proofs.Common.{◌∙◌, length, subst, refl, Ok, Err, arith}
use Rattle.cluster_turns.specs.Rounds.{Rounds, no_turn, DrainTold}
use Rattle.cluster_turns.proofs.Laws.{then_rounds, rounds_dated, drains_are_dated, drains_wear_out}
use Rattle.cluster_runs.proofs.Drained.{drained, drains_on, drain_ok, rest_up}
use Rattle.cluster_runs.proofs.Settled.{drain_settled, settled_later}
use Rattle.cluster_runs.proofs.draining.drain_all.Goals as goal

pub loop-init : goal.loop-init
loop-init g c = record { walker = c.requires.rest.walker; same = (refl, refl); rounds = no_turn }

pub returns-in-Err-clause-rest : goal.returns-in-Err-clause-rest
returns-in-Err-clause-rest g c = let w = c.args.walker.now in let u = c.loop.walker in let v = c.drain.new.walker in let inv = c.loop.invariant in let count = length c.args.shards.now.locks.items in let e = c.in-Err.ensures in
    drained c.drains_land.ensures c.drains_hold_none.ensures c.drains_fetch_none.ensures c.args.shards.now w v (Err c.in-Err.error) 0 c.requires.rest (e.walker.0, (e.walker.1.0 ∙ inv.same.0, e.walker.1.1 ∙ inv.same.1))
    (drains_on (Err c.in-Err.error) v.clock v.passes.items inv.rounds (subst (λ n. DrainTold count n u.clock u.passes.items (Err c.in-Err.error) v.clock v.passes.items) inv.same.0 e.drained))

pub returns-in-Err-clause-stays : goal.returns-in-Err-clause-stays
returns-in-Err-clause-stays g c = let w = c.args.walker.now in let u = c.loop.walker in let v = c.drain.new.walker in let inv = c.loop.invariant in let count = length c.args.shards.now.locks.items in let e = c.in-Err.ensures in
    λ n clock k. drain_settled count w.number w.clock w.passes.items v.passes.items (Err c.in-Err.error) v.clock n clock
    (drains_on (Err c.in-Err.error) v.clock v.passes.items inv.rounds (subst (λ n. DrainTold count n u.clock u.passes.items (Err c.in-Err.error) v.clock v.passes.items) inv.same.0 e.drained)) k

pub returns-in-Some-last_if_settled-clause-rest : goal.returns-in-Some-last_if_settled-clause-rest
returns-in-Some-last_if_settled-clause-rest g c = let w = c.args.walker.now in let u = c.loop.walker in let v = c.drain.new.walker in let x = c.last_if_settled.new.walker in let inv = c.loop.invariant in let count = length c.args.shards.now.locks.items in let e = c.in-Some-last_if_settled.ensures in
    let first = drain_ok c.drain.result c.in_default.not-Err (subst (λ n. DrainTold count n u.clock u.passes.items c.drain.result v.clock v.passes.items) inv.same.0 c.drain.ensures.drained) in
    let second = subst (λ n. Rounds count n v.clock v.passes.items x.clock x.passes.items) (c.drain.ensures.walker.1.0 ∙ inv.same.0) e.looked in
    let told : DrainTold count w.number w.clock w.passes.items (Ok tt) x.clock x.passes.items = (then_rounds inv.rounds (then_rounds first second), λ n l. (e.settled n l).0) in
    rest_up c.args.shards.now 0 c.max-walker.result x (let m = c.max-walker.ensures in omega arith)
    (drained c.drains_land.ensures c.drains_hold_none.ensures c.drains_fetch_none.ensures c.args.shards.now w x (Ok tt) 0 c.requires.rest
    (e.walker.0, (e.walker.1.0 ∙ (c.drain.ensures.walker.1.0 ∙ inv.same.0), e.walker.1.1 ∙ (c.drain.ensures.walker.1.1 ∙ inv.same.1))) told)

pub returns-in-Some-last_if_settled-clause-settled : goal.returns-in-Some-last_if_settled-clause-settled
returns-in-Some-last_if_settled-clause-settled g c = let x = c.last_if_settled.new.walker in
    λ n l. settled_later n c.in-Some-last_if_settled.last c.max-walker.result x.passes.items (let m = c.max-walker.ensures in omega arith) (c.in-Some-last_if_settled.ensures.settled n l).1

pub returns-in-Some-last_if_settled-clause-stays : goal.returns-in-Some-last_if_settled-clause-stays
returns-in-Some-last_if_settled-clause-stays g c = let w = c.args.walker.now in let u = c.loop.walker in let v = c.drain.new.walker in let x = c.last_if_settled.new.walker in let inv = c.loop.invariant in let count = length c.args.shards.now.locks.items in let e = c.in-Some-last_if_settled.ensures in
    let first = drain_ok c.drain.result c.in_default.not-Err (subst (λ n. DrainTold count n u.clock u.passes.items c.drain.result v.clock v.passes.items) inv.same.0 c.drain.ensures.drained) in
    let second = subst (λ n. Rounds count n v.clock v.passes.items x.clock x.passes.items) (c.drain.ensures.walker.1.0 ∙ inv.same.0) e.looked in
    let told : DrainTold count w.number w.clock w.passes.items (Ok tt) x.clock x.passes.items = (then_rounds inv.rounds (then_rounds first second), λ n l. (e.settled n l).0) in
    λ n clock k. drain_settled count w.number w.clock w.passes.items x.passes.items (Ok tt) x.clock n clock told k

pub loop-preserved : goal.loop-preserved
loop-preserved g c = let w = c.args.walker.now in let u = c.loop.walker in let v = c.drain.new.walker in let x = c.last_if_settled.new.walker in let inv = c.loop.invariant in let count = length c.args.shards.now.locks.items in let e = c.last_if_settled.ensures in
    let first = drain_ok c.drain.result c.in_default.not-Err (subst (λ n. DrainTold count n u.clock u.passes.items c.drain.result v.clock v.passes.items) inv.same.0 c.drain.ensures.drained) in
    let second = subst (λ n. Rounds count n v.clock v.passes.items x.clock x.passes.items) (c.drain.ensures.walker.1.0 ∙ inv.same.0) e.looked in
    record {
      walker = e.walker.0;
      same = (e.walker.1.0 ∙ (c.drain.ensures.walker.1.0 ∙ inv.same.0), e.walker.1.1 ∙ (c.drain.ensures.walker.1.1 ∙ inv.same.1));
      rounds = then_rounds inv.rounds (then_rounds first second);
    }

-- ---- its clock, and its serial

pub returns-in-Err-clause-dated : goal.returns-in-Err-clause-dated
returns-in-Err-clause-dated g c = let w = c.args.walker.now in let u = c.loop.walker in let v = c.drain.new.walker in let inv = c.loop.invariant in let count = length c.args.shards.now.locks.items in let e = c.in-Err.ensures in
    drains_are_dated count w.number w.clock v.clock w.passes.items v.passes.items (Err c.in-Err.error)
    (drains_on (Err c.in-Err.error) v.clock v.passes.items inv.rounds (subst (λ n. DrainTold count n u.clock u.passes.items (Err c.in-Err.error) v.clock v.passes.items) inv.same.0 e.drained))

pub returns-in-Err-clause-serial : goal.returns-in-Err-clause-serial
returns-in-Err-clause-serial g c = c.in-Err.ensures.walker.1.1 ∙ c.loop.invariant.same.1

pub returns-in-Err-clause-worn : goal.returns-in-Err-clause-worn
returns-in-Err-clause-worn g c at is =
    let u = c.loop.walker in let v = c.drain.new.walker in let count = length c.args.shards.now.locks.items in
    let told = c.stop_of.ensures at (let k = is in cc) in
    (told.0, drains_wear_out count u.number u.clock v.clock told.1.0 u.passes.items v.passes.items (subst (λ x. DrainTold count u.number u.clock u.passes.items (Err x) v.clock v.passes.items) told.1.1 c.in-Err.ensures.drained))

pub returns-in-Some-last_if_settled-clause-dated : goal.returns-in-Some-last_if_settled-clause-dated
returns-in-Some-last_if_settled-clause-dated g c = let u = c.loop.walker in let v = c.drain.new.walker in let x = c.last_if_settled.new.walker in let inv = c.loop.invariant in let count = length c.args.shards.now.locks.items in let e = c.in-Some-last_if_settled.ensures in
    let first = drain_ok c.drain.result c.in_default.not-Err (subst (λ n. DrainTold count n u.clock u.passes.items c.drain.result v.clock v.passes.items) inv.same.0 c.drain.ensures.drained) in
    let second = subst (λ n. Rounds count n v.clock v.passes.items x.clock x.passes.items) (c.drain.ensures.walker.1.0 ∙ inv.same.0) e.looked in
    let d = rounds_dated (then_rounds inv.rounds (then_rounds first second)) in
    (d.0, (let b = d.1 in let m = c.max-walker.ensures in let s = e.seen in omega arith))

pub returns-in-Some-last_if_settled-clause-serial : goal.returns-in-Some-last_if_settled-clause-serial
returns-in-Some-last_if_settled-clause-serial g c = c.in-Some-last_if_settled.ensures.walker.1.1 ∙ (c.drain.ensures.walker.1.1 ∙ c.loop.invariant.same.1)

pub returns-in-Some-last_if_settled-clause-worn : goal.returns-in-Some-last_if_settled-clause-worn
returns-in-Some-last_if_settled-clause-worn g c at is = absurd cc
