use Rattle.std.proofs.Common.{length, sym, subst}
use Rattle.cluster_turns.specs.Rounds.{no_turn, reminds, Refused, no_reminder}
use Rattle.cluster_turns.proofs.tending.remind.Goals as goal

pub returns-in-Ok-clause-tended : goal.returns-in-Ok-clause-tended
returns-in-Ok-clause-tended g c = let v = c.remind_once.new.walker in let r = c.in-Ok.ensures.reminded in reminds c.args.shard r.0 v.clock v.passes.items no_turn c.requires.shard r.2

pub returns-in-Err-clause-tended : goal.returns-in-Err-clause-tended
returns-in-Err-clause-tended g c = let w = c.args.walker.now in let v = c.remind_once.new.walker in let count = length c.args.shards.now.locks.items in let r = c.in-Err.ensures.reminded in
    subst (λ e. Refused count w.number w.clock w.passes.items e v.clock v.passes.items) (sym c.undelivered.ensures)
    (no_reminder c.args.shard r.0 c.in-Err.error v.clock v.passes.items no_turn c.requires.shard r.2 (sym r.1))
