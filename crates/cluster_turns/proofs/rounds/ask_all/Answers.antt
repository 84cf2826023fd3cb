use Rattle.std.proofs.Common.{◌∙◌, length, subst, refl}
use Rattle.cluster_turns.specs.Rounds.{no_turn, Refused, Tended}
use Rattle.cluster_turns.proofs.Going.{then_rounds, then_refused, tended_ok}
use Rattle.cluster_turns.proofs.rounds.ask_all.Goals as goal

pub loop-shard-init : goal.loop-shard-init
loop-shard-init g c = record { walker = c.requires.walker; same = (refl, refl); rounds = no_turn }

pub returns-in-Err-clause-tended : goal.returns-in-Err-clause-tended
returns-in-Err-clause-tended g c = let u = c.loop-shard.walker in let v = c.remind.new.walker in let inv = c.loop-shard.invariant in let count = length c.args.shards.now.locks.items in
    then_refused inv.rounds (subst (λ n. Refused count n u.clock u.passes.items c.in-Err.error v.clock v.passes.items) inv.same.0 c.in-Err.ensures.tended)

pub loop-shard-preserved : goal.loop-shard-preserved
loop-shard-preserved g c = let u = c.loop-shard.walker in let v = c.remind.new.walker in let inv = c.loop-shard.invariant in let e = c.remind.ensures in let count = length c.args.shards.now.locks.items in
    record {
      walker = e.walker.0;
      same = (e.walker.1.0 ∙ inv.same.0, e.walker.1.1 ∙ inv.same.1);
      rounds = then_rounds inv.rounds (tended_ok c.remind.result c.in_default.not-Err (subst (λ n. Tended count n u.clock u.passes.items c.remind.result v.clock v.passes.items) inv.same.0 e.tended));
    }
