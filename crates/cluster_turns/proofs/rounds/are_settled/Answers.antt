use Rattle.std.proofs.Common.{◌≡◌, ◌∙◌, ◌<◌, ℕ, true, length, subst, refl, sym, arith}
use mathlib.Core.Logic.{dite}
use native.Mathlib.Decide.{ℕ_discrete}
use Rattle.cluster_turns.specs.Turns.{SettledTold}
use Rattle.cluster_turns.specs.Walkers.{Walked}
use Rattle.cluster_turns.specs.Rounds.{Rounds, no_turn, looks, SettledAt}
use Rattle.cluster_turns.proofs.Going.{settled_still, settled_here}
use Rattle.cluster_turns.proofs.rounds.are_settled.Goals as goal

pub loop-shard-init : goal.loop-shard-init
loop-shard-init g c = record { walker = c.requires.walker; same = (refl, refl); rounds = no_turn; settled = λ n l. absurd (omega arith) }

pub is_settled-requires-clause-shard : goal.is_settled-requires-clause-shard
is_settled-requires-clause-shard g c = let h = c.loop-shard-test.true in let e = c.shards-shard-end.ensures.shards in let k = c.requires.walker.count in omega arith

pub returns-then-not-is_settled-clause-looked : goal.returns-then-not-is_settled-clause-looked
returns-then-not-is_settled-clause-looked g c = let w = c.args.walker.now in let u = c.loop-shard.walker in let v = c.is_settled.new.walker in let inv = c.loop-shard.invariant in let e = c.is_settled.ensures in
    let low : c.loop-shard.shard < length c.args.shards.now.locks.items = (let h = c.loop-shard-test.true in let s = c.shards-shard-end.ensures.shards in let k = c.requires.walker.count in omega arith) in
    let told = subst (λ n. Walked (SettledTold c.is_settled.result) c.loop-shard.shard n u.passes.items v.passes.items) inv.same.0 e.settled in
    subst (λ clock. Rounds (length c.args.shards.now.locks.items) w.number w.clock w.passes.items clock v.passes.items) (sym e.walker.2) (looks c.loop-shard.shard c.is_settled.result v.passes.items inv.rounds low told)

pub loop-shard-preserved : goal.loop-shard-preserved
loop-shard-preserved g c = let w = c.args.walker.now in let u = c.loop-shard.walker in let v = c.is_settled.new.walker in let inv = c.loop-shard.invariant in let e = c.is_settled.ensures in
    let low : c.loop-shard.shard < length c.args.shards.now.locks.items = (let h = c.loop-shard-test.true in let s = c.shards-shard-end.ensures.shards in let k = c.requires.walker.count in omega arith) in
    let told = subst (λ n. Walked (SettledTold c.is_settled.result) c.loop-shard.shard n u.passes.items v.passes.items) inv.same.0 e.settled in
    let yes : c.is_settled.result ≡ true = c.if-not-is_settled.false in
    record {
      walker = e.walker.0;
      same = (e.walker.1.0 ∙ inv.same.0, e.walker.1.1 ∙ inv.same.1);
      rounds = subst (λ clock. Rounds (length c.args.shards.now.locks.items) w.number w.clock w.passes.items clock v.passes.items) (sym e.walker.2) (looks c.loop-shard.shard c.is_settled.result v.passes.items inv.rounds low told);
      settled = λ n l. dite (ℕ_discrete n c.loop-shard.shard)
          (λ same. subst (λ (m : ℕ). SettledAt m v.passes.items) (sym same) (settled_here c.is_settled.result told (let k = inv.walker.walks.are_passes.count in omega arith) yes))
          (λ other. settled_still told n other (inv.settled n (omega arith)));
    }
