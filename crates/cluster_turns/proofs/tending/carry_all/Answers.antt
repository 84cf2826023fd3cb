use Rattle.std.proofs.Common.{◌∙◌, Err, length, subst, refl}
use Rattle.cluster_turns.specs.Carried.{CarryTold}
use Rattle.cluster_turns.specs.Rounds.{no_turn, carries}
use Rattle.cluster_turns.proofs.tending.carry_all.Goals as goal

pub loop-init : goal.loop-init
loop-init g c = record { walker = c.requires.walker; same = (refl, refl); rounds = no_turn }

pub loop-preserved : goal.loop-preserved
loop-preserved g c = let u = c.loop.walker in let v = c.carry_once.new.walker in let inv = c.loop.invariant in let e = c.in-Ok-Carried.ensures in let count = length c.args.shards.now.locks.items in
    record {
      walker = e.walker.0;
      same = (e.walker.1.0 ∙ inv.same.0, e.walker.1.1 ∙ inv.same.1);
      rounds = carries c.args.from c.carry_once.result v.clock v.passes.items inv.rounds c.requires.shard
          (subst (λ n. CarryTold count c.args.from n u.clock u.passes.items c.carry_once.result v.clock v.passes.items) inv.same.0 c.carry_once.ensures.carried);
    }

pub returns-in-Ok-Nothing : goal.returns-in-Ok-Nothing
returns-in-Ok-Nothing g c = let u = c.loop.walker in let v = c.carry_once.new.walker in let inv = c.loop.invariant in let e = c.in-Ok-Nothing.ensures in let count = length c.args.shards.now.locks.items in
    record {
      walker = (e.walker.0, (e.walker.1.0 ∙ inv.same.0, e.walker.1.1 ∙ inv.same.1));
      carried = carries c.args.from c.carry_once.result v.clock v.passes.items inv.rounds c.requires.shard
          (subst (λ n. CarryTold count c.args.from n u.clock u.passes.items c.carry_once.result v.clock v.passes.items) inv.same.0 c.carry_once.ensures.carried);
    }

pub returns-in-Err : goal.returns-in-Err
returns-in-Err g c = let u = c.loop.walker in let v = c.carry_once.new.walker in let inv = c.loop.invariant in let e = c.in-Err.ensures in let count = length c.args.shards.now.locks.items in
    record {
      walker = (e.walker.0, (e.walker.1.0 ∙ inv.same.0, e.walker.1.1 ∙ inv.same.1));
      carried = (u.clock, u.passes.items, inv.rounds, subst (λ n. CarryTold count c.args.from n u.clock u.passes.items (Err c.in-Err.error) v.clock v.passes.items) inv.same.0 e.carried);
    }
