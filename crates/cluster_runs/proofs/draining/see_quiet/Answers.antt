use Rattle.std.proofs.Common.{◌∙◌, length, subst, refl, Ok}
use Rattle.cluster_turns.specs.Rounds.{Rounds, no_turn, DrainTold}
use Rattle.cluster_turns.proofs.Laws.{then_rounds, rounds_dated}
use Rattle.cluster_runs.proofs.Drained.{drained}
use Rattle.cluster_runs.proofs.Settled.{settles}
use Rattle.cluster_runs.proofs.Seeing.{sees_same, sees_then}
use Rattle.cluster_runs.proofs.draining.see_quiet.Goals as goal

pub loop-init : goal.loop-init
loop-init g c = record { walker = c.requires.walker; same = (refl, refl); clock = refl; rounds = no_turn; sees = sees_same c.args.walker.now.passes.items }

pub loop-preserved : goal.loop-preserved
loop-preserved g c = let inv = c.loop.invariant in let e = c.are_quiet.ensures in let v = c.are_quiet.new.walker in
    record {
      walker = e.walker.0;
      same = (e.walker.1.0 ∙ inv.same.0, e.walker.1.1 ∙ inv.same.1);
      clock = e.clock ∙ inv.clock;
      rounds = then_rounds inv.rounds (subst (λ n. Rounds (length c.args.shards.now.locks.items) n c.loop.walker.clock c.loop.walker.passes.items v.clock v.passes.items) inv.same.0 e.looked);
      sees = sees_then inv.sees e.sees;
    }

pub returns-then-are_quiet-clause-looked : goal.returns-then-are_quiet-clause-looked
returns-then-are_quiet-clause-looked g c = let w = c.args.walker.now in let inv = c.loop.invariant in let e = c.are_quiet.ensures in let v = c.are_quiet.new.walker in let count = length c.args.shards.now.locks.items in
    let rounds : Rounds count w.number w.clock w.passes.items v.clock v.passes.items =
    then_rounds inv.rounds (subst (λ n. Rounds count n c.loop.walker.clock c.loop.walker.passes.items v.clock v.passes.items) inv.same.0 e.looked) in
    let told : DrainTold count w.number w.clock w.passes.items (Ok tt) v.clock v.passes.items = (rounds, λ n l. settles n v.passes.items (e.quiet c.if-are_quiet.true n l)) in
    record {
      number_is = e.walker.1.0 ∙ inv.same.0;
      clock_is = e.clock ∙ inv.clock;
      serial_is = e.walker.1.1 ∙ inv.same.1;
      sees = sees_then inv.sees e.sees;
      rises = (rounds_dated rounds).0;
      rest = λ number rest. drained c.drains_land.ensures c.drains_hold_none.ensures c.drains_fetch_none.ensures c.args.shards.now w v (Ok tt) number rest (e.walker.0, (e.walker.1.0 ∙ inv.same.0, e.walker.1.1 ∙ inv.same.1)) told;
    }

pub returns-then-are_quiet-clause-quiet : goal.returns-then-are_quiet-clause-quiet
returns-then-are_quiet-clause-quiet g c = c.are_quiet.ensures.quiet c.if-are_quiet.true
