use Rattle.std.proofs.Common.{◌≡◌, ◌∙◌, ◌<◌, ℕ, true, length, sym, subst, refl, arith}
use Rattle.law_base.proofs.Bools.{was_true}
use mathlib.Core.Logic.{dite}
use native.Mathlib.Decide.{ℕ_discrete}
use Rattle.cluster_turns.specs.Walkers.{Walked}
use Rattle.cluster_turns.specs.Rounds.{Rounds, no_turn, looks}
use Rattle.cluster_runs.specs.Drained.{LookTold, QuietAt}
use Rattle.cluster_runs.proofs.Settled.{as_look, quiet_still, quiet_here}
use Rattle.cluster_runs.proofs.Seeing.{sees_same, sees_then, looked_on}
use Rattle.cluster_runs.proofs.draining.are_quiet.Goals as goal

pub loop-shard-init : goal.loop-shard-init
loop-shard-init g c = record { walker = c.requires.walker; same = (refl, refl); rounds = no_turn; quiet = λ n l. absurd (omega arith); clock = refl; sees = sees_same c.args.walker.now.passes.items }

pub look-sight-requires-clause-shard : goal.look-sight-requires-clause-shard
look-sight-requires-clause-shard g c = let h = c.loop-shard-test.true in let e = c.shards-shard-end.ensures.shards in let k = c.requires.walker.count in omega arith

pub returns-then-not-sight-clause-looked : goal.returns-then-not-sight-clause-looked
returns-then-not-sight-clause-looked g c = let w = c.args.walker.now in let u = c.loop-shard.walker in let v = c.look-sight.new.walker in let inv = c.loop-shard.invariant in let e = c.look-sight.ensures in let r = c.look-sight.result in
    let low : c.loop-shard.shard < length c.args.shards.now.locks.items = (let h = c.loop-shard-test.true in let s = c.shards-shard-end.ensures.shards in let k = c.requires.walker.count in omega arith) in
    let told = subst (λ n. Walked (LookTold r) c.loop-shard.shard n u.passes.items v.passes.items) inv.same.0 e.looked in
    subst (λ clock. Rounds (length c.args.shards.now.locks.items) w.number w.clock w.passes.items clock v.passes.items) (sym e.walker.2) (looks c.loop-shard.shard r.settled v.passes.items inv.rounds low (as_look r told))

pub loop-shard-preserved : goal.loop-shard-preserved
loop-shard-preserved g c = let w = c.args.walker.now in let u = c.loop-shard.walker in let v = c.look-sight.new.walker in let inv = c.loop-shard.invariant in let e = c.look-sight.ensures in let r = c.look-sight.result in
    let low : c.loop-shard.shard < length c.args.shards.now.locks.items = (let h = c.loop-shard-test.true in let s = c.shards-shard-end.ensures.shards in let k = c.requires.walker.count in omega arith) in
    let told = subst (λ n. Walked (LookTold r) c.loop-shard.shard n u.passes.items v.passes.items) inv.same.0 e.looked in
    let yes : r.quiet ≡ true = was_true r.quiet c.if-not-sight.false in
    record {
      walker = e.walker.0;
      same = (e.walker.1.0 ∙ inv.same.0, e.walker.1.1 ∙ inv.same.1);
      rounds = subst (λ clock. Rounds (length c.args.shards.now.locks.items) w.number w.clock w.passes.items clock v.passes.items) (sym e.walker.2) (looks c.loop-shard.shard r.settled v.passes.items inv.rounds low (as_look r told));
      quiet = λ n l. dite (ℕ_discrete n c.loop-shard.shard)
          (λ same. subst (λ (m : ℕ). QuietAt m v.passes.items) (sym same) (quiet_here r told (let k = inv.walker.walks.are_passes.count in omega arith) yes))
          (λ other. quiet_still told n other (inv.quiet n (omega (arith, other))));
      clock = e.walker.2 ∙ inv.clock;
      sees = sees_then inv.sees (looked_on r told);
    }

pub returns-clause-quiet : goal.returns-clause-quiet
returns-clause-quiet g c = let inv = c.loop-shard.invariant in let h = c.loop-shard-test.false in let e = c.shards-shard-end.ensures.shards in let k = c.requires.walker.count in λ yes n l. inv.quiet n (omega arith)

pub returns-then-not-sight-clause-clock : goal.returns-then-not-sight-clause-clock
returns-then-not-sight-clause-clock g c = c.look-sight.ensures.walker.2 ∙ c.loop-shard.invariant.clock

pub returns-then-not-sight-clause-sees : goal.returns-then-not-sight-clause-sees
returns-then-not-sight-clause-sees g c = let inv = c.loop-shard.invariant in let r = c.look-sight.result in
    let told = subst (λ n. Walked (LookTold r) c.loop-shard.shard n c.loop-shard.walker.passes.items c.look-sight.new.walker.passes.items) inv.same.0 c.look-sight.ensures.looked in
    sees_then inv.sees (looked_on r told)

pub returns-clause-clock : goal.returns-clause-clock
returns-clause-clock g c = c.loop-shard.invariant.clock

pub returns-clause-sees : goal.returns-clause-sees
returns-clause-sees g c = c.loop-shard.invariant.sees
