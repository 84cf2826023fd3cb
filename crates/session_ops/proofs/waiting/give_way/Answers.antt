use Rattle.std.proofs.Common.{◌∙◌, Ok, refl, subst}
use Rattle.session_ops.proofs.EndSeeing.{no_round, rounds_follow}
use Rattle.session_ops.proofs.waiting.give_way.Goals as goal

pub loop-init : goal.loop-init
loop-init g c = let w = c.args.walker.now in (c.requires.standing, (refl, refl), no_round {A = Unit {0}} w.number w.clock w.passes.items tt)

pub returns-then-horizon_at-before-clause-round : goal.returns-then-horizon_at-before-clause-round
returns-then-horizon_at-before-clause-round g c = let w = c.args.walker.now in let u = c.loop.walker in let v = c.horizon_at.new.walker in let i = c.loop.invariant in let e = c.horizon_at.ensures in
    rounds_follow {A = Unit {0}} {B = Unit {0}} w.number w.clock u.clock v.clock w.passes.items u.passes.items v.passes.items (Ok tt) (Ok tt) i.2
    (record { turns = e.round.turns; took = subst (λ n. Rattle.cluster_turns.specs.CallTurns.Took n u.clock u.passes.items e.round.turns v.clock v.passes.items) i.1.0 e.round.took; others = e.round.others; ended = tt })

pub loop-preserved : goal.loop-preserved
loop-preserved g c = let w = c.args.walker.now in let u = c.loop.walker in let v = c.horizon_at.new.walker in let i = c.loop.invariant in let e = c.horizon_at.ensures in (
  e.stands,
  (e.walker.0 ∙ i.1.0, e.walker.1 ∙ i.1.1),
  rounds_follow {A = Unit {0}} {B = Unit {0}} w.number w.clock u.clock v.clock w.passes.items u.passes.items v.passes.items (Ok tt) (Ok tt) i.2
      (record { turns = e.round.turns; took = subst (λ n. Rattle.cluster_turns.specs.CallTurns.Took n u.clock u.passes.items e.round.turns v.clock v.passes.items) i.1.0 e.round.took; others = e.round.others; ended = tt }),
)
