use Rattle.std.proofs.Common.{sym, subst}
use Rattle.session_ops.specs.Decided.{IsLeftOver, LeavesIf}
use Rattle.session_ops.proofs.Deciding.{home_within, left_over, decided, decided_stands}
use Rattle.session_ops.proofs.ended_leaving.finish.Goals as goal

pub settle-answer-requires-clause-shard : goal.settle-answer-requires-clause-shard
settle-answer-requires-clause-shard g c = home_within c.args.shards.now c.args.walker.now c.args.place.now c.args.home c.requires.standing

pub leave_if-requires : goal.leave_if-requires
leave_if-requires g c = let u = c.settle-answer.new.walker in let m = c.settle-answer.new.place in let r = c.settle-answer.result in
    record { over = subst (λ b. IsLeftOver b c.args.shards.now u m) (sym c.was_aborted-over.ensures) (left_over c.args.shards.now u c.args.place.now m c.args.home r c.settle-answer.ensures.place c.settle-answer.ensures.stands) }

pub returns-clause-turns : goal.returns-clause-turns
returns-clause-turns g c = let w = c.args.walker.now in let u = c.settle-answer.new.walker in let v = c.leave_if.new.walker in let p = c.args.place.now in let m = c.settle-answer.new.place in let q = c.leave_if.new.place in let r = c.settle-answer.result in
    decided c.args.shards.now w u v c.args.home p m q r c.requires.standing.stands c.settle-answer.ensures.walker.0 c.settle-answer.ensures.turns c.settle-answer.ensures.place
    (subst (λ b. LeavesIf b c.args.shards.now u m c.args.home v q) c.was_aborted-over.ensures c.leave_if.ensures.drops)

pub returns-clause-stands : goal.returns-clause-stands
returns-clause-stands g c = let w = c.args.walker.now in let u = c.settle-answer.new.walker in let v = c.leave_if.new.walker in let p = c.args.place.now in let m = c.settle-answer.new.place in let q = c.leave_if.new.place in let r = c.settle-answer.result in
    decided_stands c.args.shards.now w u v c.args.home p m q r c.requires.standing.stands c.settle-answer.ensures.place c.settle-answer.ensures.stands
    (subst (λ b. LeavesIf b c.args.shards.now u m c.args.home v q) c.was_aborted-over.ensures c.leave_if.ensures.drops)
