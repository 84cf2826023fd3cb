use Rattle.std.proofs.Common.{Err, length, sym, subst}
use Rattle.cluster_turns.specs.Rounds.{Refused, no_message, CarriedAll}
use Rattle.cluster_turns.proofs.Going.{then_rounds, carried_ok, tended_ok}
use Rattle.cluster_turns.proofs.tending.tend.Goals as goal

pub returns-in-Err-carry_all-clause-tended : goal.returns-in-Err-carry_all-clause-tended
returns-in-Err-carry_all-clause-tended g c = let w = c.args.walker.now in let u = c.flush.new.walker in let v = c.carry_all.new.walker in let count = length c.args.shards.now.locks.items in
    let flushed = tended_ok c.flush.result c.in_default.not-Err c.flush.ensures.tended in
    let k = subst (λ n. CarriedAll count n c.args.shard u.clock u.passes.items (Err c.in-Err-carry_all.error) v.clock v.passes.items) c.flush.ensures.walker.1.0 c.in-Err-carry_all.ensures.carried in
    subst (λ e. Refused count w.number w.clock w.passes.items e v.clock v.passes.items) (sym c.undelivered.ensures)
    (no_message c.args.shard c.in-Err-carry_all.error v.clock v.passes.items (then_rounds flushed k.2) c.requires.shard k.3)

pub returns-clause-tended : goal.returns-clause-tended
returns-clause-tended g c = let u = c.flush.new.walker in let v = c.carry_all.new.walker in let count = length c.args.shards.now.locks.items in
    let flushed = tended_ok c.flush.result c.in_default.not-Err c.flush.ensures.tended in
    let k = subst (λ n. CarriedAll count n c.args.shard u.clock u.passes.items c.carry_all.result v.clock v.passes.items) c.flush.ensures.walker.1.0 c.carry_all.ensures.carried in
    then_rounds flushed (carried_ok c.args.shard c.carry_all.result c.in_default-carry_all.not-Err k)
