use Rattle.std.proofs.Common.{length, subst}
use Rattle.cluster_turns.specs.Rounds.{Tended}
use Rattle.cluster_turns.proofs.Going.{tended_ok, then_tended}
use Rattle.cluster_turns.proofs.rounds.go_round.Goals as goal

pub returns-clause-tended : goal.returns-clause-tended
returns-clause-tended g c = let u = c.move_all.new.walker in let v = c.stand_by.new.walker in let count = length c.args.shards.now.locks.items in
    then_tended c.stand_by.result v.clock v.passes.items (tended_ok c.move_all.result c.in_default.not-Err c.move_all.ensures.tended)
    (subst (λ n. Tended count n u.clock u.passes.items c.stand_by.result v.clock v.passes.items) c.move_all.ensures.walker.1.0 c.stand_by.ensures.tended)
