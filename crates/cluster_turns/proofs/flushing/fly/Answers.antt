use Rattle.std.proofs.Common.{sym, subst}
use Rattle.turn_lock.specs.Passes.{seen}
use Rattle.std.proofs.lemmas.Result.{on_ok_weaker}
use Rattle.machine_laws.specs.Homes.{layout_of}
use Rattle.machine_laws.specs.Gates.{InAir, Landable}
use Rattle.machine_laws.proofs.Laws.{pushes}
use Rattle.cluster_turns.proofs.flushing.fly.Goals as goal

pub arrive-requires-clause-away : goal.arrive-requires-clause-away
arrive-requires-clause-away g c = let a = c.requires.away in let v = a.2 in let e = c.push.ensures in let f = c.args.flight in (
  a.0,
  a.1,
  record {
    origin = v.origin;
    has_origin = v.has_origin;
    s = v.s;
    s_is = v.s_is;
    early = v.early;
    taken = v.taken;
    holds = subst (λ b. Landable b v.s f.upto (g.M.Gate.Gate.faults f.as_taken.value) (g.M.Gate.Gate.is_shut c.push.new.self) (g.M.Gate.Gate.faults c.push.new.self) (g.M.Gate.Gate.shard c.push.new.self) (g.M.Gate.Gate.logs c.push.new.self (layout_of v.origin))) (sym c.is_ok-pushed.ensures.value)
        (pushes v.origin (seen a.0) v.s f.upto c.as_slice.result.now (g.M.Gate.Gate.faults f.as_taken.value) (g.M.Gate.Gate.is_shut f.gate) (g.M.Gate.Gate.is_shut c.push.new.self) (g.M.Gate.Gate.faults f.gate) (g.M.Gate.Gate.faults c.push.new.self)
        (g.M.Gate.Gate.shard f.gate) (g.M.Gate.Gate.shard c.push.new.self) (g.M.Gate.Gate.logs f.gate (layout_of v.origin))
        (g.M.Gate.Gate.logs c.push.new.self (layout_of v.origin)) c.push.result v.s_is
        (subst (λ p. InAir v.s f.upto p (g.M.Gate.Gate.faults f.as_taken.value) (g.M.Gate.Gate.is_shut f.gate) (g.M.Gate.Gate.faults f.gate) (g.M.Gate.Gate.shard f.gate) (g.M.Gate.Gate.logs f.gate (layout_of v.origin))) (sym c.as_slice.ensures.value) v.holds) (on_ok_weaker c.push.result (λ k. k (layout_of v.origin)) e.ok) (e.either (layout_of v.origin)) e.up e.shut e.cause e.same_shard);
  },
)
