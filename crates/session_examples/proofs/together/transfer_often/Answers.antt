use Rattle.std.proofs.Common.{◌∙◌, sym, subst, arith}
use Rattle.session_api.specs.Standing.{Holds}
use Rattle.session_examples.proofs.Walking.{holds_later}
use Rattle.session_examples.proofs.together.transfer_often.Goals as goal
use Rattle.session_examples.proofs.Idling.{ends_idle as none_active}

pub returns-in-Err-clause-session : goal.returns-in-Err-clause-session
returns-in-Err-clause-session g c =
    let u = c.loop-step.session in let z = c.transfer.new.session in let e = c.transfer.ensures in
    holds_later z.shards.now u.walker z.walker u.progress z.progress (subst (λ x. Holds x.now u.walker u.progress) (sym e.shards) c.loop-step.invariant.session) e.session e.later

pub loop-step-preserved : goal.loop-step-preserved
loop-step-preserved g c =
    let u = c.loop-step.session in let z = c.transfer.new.session in let e = c.transfer.ensures in let inv = c.loop-step.invariant in let few = inv.few in let one = c.moves-moved.ensures.one in
    record {
      session = holds_later z.shards.now u.walker z.walker u.progress z.progress (subst (λ x. Holds x.now u.walker u.progress) (sym e.shards) inv.session) e.session e.later;
      saved = e.saved;
      idle = none_active c.in-Ok.transferred z.progress c.in-Ok.ensures.ends;
      shards = e.shards ∙ inv.shards;
      number = e.later.number_is ∙ inv.number;
      few = (omega arith);
    }
