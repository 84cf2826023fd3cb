use Rattle.std.proofs.Common.{◌∙◌, sym, subst}
use Rattle.session_examples.specs.Moves.{IsFresh, MovesAs}
use Rattle.session_examples.proofs.Following.{later_on}
use Rattle.session_examples.proofs.Moving.{ends_moved}
use Rattle.session_examples.proofs.transfers.run_tries.Goals.{in_default-via-in-Err+in-Refused-1, in_default-via-in-Ok-1}
use Rattle.session_examples.proofs.transfers.run_tries.Goals as goal

pub loop-again-preserved : goal.loop-again-preserved
loop-again-preserved g c =
    let w = c.args.session.now.walker in let u = c.loop-again.session.walker in let m = c.attempt.new.session.walker in let z = c.retry.new.session in let inv = c.loop-again.invariant in
    record {
      session = c.retry.ensures.session;
      saved = c.retry.ensures.saved;
      shards = c.retry.ensures.shards ∙ (c.attempt.ensures.shards ∙ inv.shards);
      later = later_on w m z.walker (later_on w u m inv.later c.attempt.ensures.later) c.retry.ensures.later;
      fresh = subst (λ x. IsFresh x.now z.walker z.progress) (sym c.retry.ensures.shards) c.in-Ok.ensures.fresh;
    }

pub returns-in-Err-clause-later : goal.returns-in-Err-clause-later
returns-in-Err-clause-later g c =
    let w = c.args.session.now.walker in let u = c.loop-again.session.walker in let m = c.attempt.new.session.walker in
    later_on w m c.retry.new.session.walker (later_on w u m c.loop-again.invariant.later c.attempt.ensures.later) c.retry.ensures.later

pub returns-in_default-clause-later : goal.returns-in_default-clause-later
returns-in_default-clause-later g c =
    let w = c.args.session.now.walker in let u = c.loop-again.session.walker in let m = c.attempt.new.session.walker in
    later_on w m c.finish.new.session.walker (later_on w u m c.loop-again.invariant.later c.attempt.ensures.later) c.finish.ensures.later

pub returns-in_default-clause-moved : goal.returns-in_default-clause-moved
returns-in_default-clause-moved g c =
    let w = c.args.session.now.walker in let u = c.loop-again.session.walker in let m = c.attempt.new.session.walker in let v = c.finish.new.session.walker in
    let from = c.args.from in let to = c.args.to in let amount = c.args.amount in
    subst (λ x. MovesAs x.now from to amount c.finish.result w v) c.loop-again.invariant.shards
    (elim c.in_default-1.branch [
      | in_default-via-in-Err+in-Refused-1 b ↦ ends_moved c.loop-again.session.shards.now w u m v from to amount c.attempt.result c.finish.result c.loop-again.invariant.later c.attempt.ensures.moved (λ e. let k = c.finish.ensures.moved e in let is = b.tried-is in let same = k.0 in (cc, k.1))
      | in_default-via-in-Ok-1 b ↦ ends_moved c.loop-again.session.shards.now w u m v from to amount c.attempt.result c.finish.result c.loop-again.invariant.later c.attempt.ensures.moved (λ e. let k = c.finish.ensures.moved e in let is = b.tried-is in let same = k.0 in (cc, k.1))
    ])

pub returns-clause-later : goal.returns-clause-later
returns-clause-later g c =
    let w = c.args.session.now.walker in let u = c.loop-again.session.walker in let m = c.attempt-tried.new.session.walker in
    later_on w m c.finish-2.new.session.walker (later_on w u m c.loop-again.invariant.later c.attempt-tried.ensures.later) c.finish-2.ensures.later

pub returns-clause-moved : goal.returns-clause-moved
returns-clause-moved g c =
    let w = c.args.session.now.walker in let u = c.loop-again.session.walker in let m = c.attempt-tried.new.session.walker in let v = c.finish-2.new.session.walker in
    subst (λ x. MovesAs x.now c.args.from c.args.to c.args.amount c.finish-2.result w v) c.loop-again.invariant.shards
    (ends_moved c.loop-again.session.shards.now w u m v c.args.from c.args.to c.args.amount c.attempt-tried.result c.finish-2.result c.loop-again.invariant.later c.attempt-tried.ensures.moved c.finish-2.ensures.moved)
