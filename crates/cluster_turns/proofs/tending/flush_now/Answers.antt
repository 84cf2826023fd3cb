use Rattle.std.proofs.Common.{length, sym, subst}
use Rattle.cluster_turns.specs.Rounds.{no_turn, flushes, Refused, no_flush}
use Rattle.cluster_turns.proofs.tending.flush_now.Goals as goal

pub returns-in-Ok-clause-tended : goal.returns-in-Ok-clause-tended
returns-in-Ok-clause-tended g c = let v = c.flush_once.new.walker in
    flushes c.args.shard c.flush_once.result v.clock v.passes.items no_turn c.requires.shard c.flush_once.ensures.flush

pub returns-in-Err-clause-tended : goal.returns-in-Err-clause-tended
returns-in-Err-clause-tended g c = let w = c.args.walker.now in let v = c.flush_once.new.walker in let count = length c.args.shards.now.locks.items in
    subst (λ e. Refused count w.number w.clock w.passes.items e v.clock v.passes.items) (sym c.unflushed.ensures)
    (no_flush c.args.shard c.in-Err.error v.clock v.passes.items no_turn c.requires.shard c.in-Err.ensures.flush)
