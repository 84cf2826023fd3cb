use Rattle.std.proofs.Common.{◌∙◌, length, subst, refl}
use Rattle.cluster_turns.specs.Rounds.{Rounds, no_turn, Refused, Tended}
use Rattle.cluster_turns.proofs.Going.{then_rounds, then_refused, tended_ok, rounds_grow, refused_grows}
use Rattle.cluster_turns.proofs.draining.drain.Goals as goal

pub loop-init : goal.loop-init
loop-init g c = record { walker = c.requires.walker; same = (refl, refl); rounds = no_turn }

pub returns-in-Err-clause-drained : goal.returns-in-Err-clause-drained
returns-in-Err-clause-drained g c = let u = c.loop.walker in let v = c.go_round.new.walker in let inv = c.loop.invariant in let count = length c.args.shards.now.locks.items in
    then_refused inv.rounds (subst (λ n. Refused count n u.clock u.passes.items c.in-Err.error v.clock v.passes.items) inv.same.0 c.in-Err.ensures.tended)

pub returns-in-Err-clause-kept : goal.returns-in-Err-clause-kept
returns-in-Err-clause-kept g c = let u = c.loop.walker in let v = c.go_round.new.walker in let inv = c.loop.invariant in let count = length c.args.shards.now.locks.items in
    refused_grows (then_refused inv.rounds (subst (λ n. Refused count n u.clock u.passes.items c.in-Err.error v.clock v.passes.items) inv.same.0 c.in-Err.ensures.tended))

pub returns-then-are_settled-clause-drained : goal.returns-then-are_settled-clause-drained
returns-then-are_settled-clause-drained g c = let u = c.loop.walker in let v = c.go_round.new.walker in let x = c.are_settled.new.walker in let inv = c.loop.invariant in let count = length c.args.shards.now.locks.items in
    let first = tended_ok c.go_round.result c.in_default.not-Err (subst (λ n. Tended count n u.clock u.passes.items c.go_round.result v.clock v.passes.items) inv.same.0 c.go_round.ensures.tended) in
    let second = subst (λ n. Rounds count n v.clock v.passes.items x.clock x.passes.items) (c.go_round.ensures.walker.1.0 ∙ inv.same.0) c.are_settled.ensures.looked in
    (then_rounds inv.rounds (then_rounds first second), c.are_settled.ensures.settled c.if-are_settled.true)

pub returns-then-are_settled-clause-kept : goal.returns-then-are_settled-clause-kept
returns-then-are_settled-clause-kept g c = let u = c.loop.walker in let v = c.go_round.new.walker in let x = c.are_settled.new.walker in let inv = c.loop.invariant in let count = length c.args.shards.now.locks.items in
    let first = tended_ok c.go_round.result c.in_default.not-Err (subst (λ n. Tended count n u.clock u.passes.items c.go_round.result v.clock v.passes.items) inv.same.0 c.go_round.ensures.tended) in
    let second = subst (λ n. Rounds count n v.clock v.passes.items x.clock x.passes.items) (c.go_round.ensures.walker.1.0 ∙ inv.same.0) c.are_settled.ensures.looked in
    rounds_grow (then_rounds inv.rounds (then_rounds first second))

pub loop-preserved : goal.loop-preserved
loop-preserved g c = let u = c.loop.walker in let v = c.go_round.new.walker in let x = c.are_settled.new.walker in let inv = c.loop.invariant in let count = length c.args.shards.now.locks.items in
    let first = tended_ok c.go_round.result c.in_default.not-Err (subst (λ n. Tended count n u.clock u.passes.items c.go_round.result v.clock v.passes.items) inv.same.0 c.go_round.ensures.tended) in
    let second = subst (λ n. Rounds count n v.clock v.passes.items x.clock x.passes.items) (c.go_round.ensures.walker.1.0 ∙ inv.same.0) c.are_settled.ensures.looked in
    let e = c.are_settled.ensures in
    record {
      walker = e.walker.0;
      same = (e.walker.1.0 ∙ (c.go_round.ensures.walker.1.0 ∙ inv.same.0), e.walker.1.1 ∙ (c.go_round.ensures.walker.1.1 ∙ inv.same.1));
      rounds = then_rounds inv.rounds (then_rounds first second);
    }
