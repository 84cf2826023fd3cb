use Rattle.session_ops.proofs.ScanAsking.{lowest_is_shard, answers, committing}
use Rattle.std.proofs.Common.{length, sym, subst}
use Rattle.session_ops.specs.Committed.{Answering}
use Rattle.session_ops.proofs.Pointing.{committing_points}
use Rattle.session_ops.proofs.committing.commit_at.Goals as goal

pub request-answer-requires-clause-shard : goal.request-answer-requires-clause-shard
request-answer-requires-clause-shard g c = lowest_is_shard c.args.shards.now c.args.walker.now c.args.place.now c.args.home c.requires.active c.requires.lowest

pub go_on-answer-requires : goal.go_on-answer-requires
go_on-answer-requires g c = let u = c.request-answer.new.walker in let m = c.request-answer.new.place in
    record {
      answering = subst (λ y. Answering c.args.shards.now u m c.args.home y) (sym c.next_by-next.ensures)
          (answers c.args.shards.now u c.args.place.now m c.args.home c.request-answer.result c.request-answer.ensures.outcome c.request-answer.ensures.place c.request-answer.ensures.stands);
    }

pub returns-clause-turns : goal.returns-clause-turns
returns-clause-turns g c = let w = c.args.walker.now in let u = c.request-answer.new.walker in let v = c.go_on-answer.new.walker in let p = c.args.place.now in let m = c.request-answer.new.place in let q = c.go_on-answer.new.place in
    committing (length c.args.shards.now.locks.items) w.number u.number w.clock u.clock v.clock c.args.home w.passes.items u.passes.items v.passes.items p m q c.request-answer.result c.next_by-next.result c.go_on-answer.result c.request-answer.ensures.walker.0 c.request-answer.ensures.place
    c.next_by-next.ensures c.request-answer.ensures.outcome c.request-answer.ensures.turn c.go_on-answer.ensures.turns

pub returns-clause-point : goal.returns-clause-point
returns-clause-point g c = let p = c.args.place.now in let v = c.go_on-answer.new.walker in let q = c.go_on-answer.new.place in
    committing_points (length c.args.shards.now.locks.items) c.args.home c.request-answer.new.walker.clock c.args.walker.now v p q c.go_on-answer.result (returns-clause-turns g c)
