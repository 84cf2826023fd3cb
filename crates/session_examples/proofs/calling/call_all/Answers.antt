use Rattle.std.proofs.Common.{◌∙◌, sym, subst, arith}
use Rattle.session_api.specs.Standing.{Holds}
use Rattle.session_examples.proofs.Walking.{holds_later}
use Rattle.session_examples.proofs.calling.call_all.Goals as goal

pub loop-call-preserved : goal.loop-call-preserved
loop-call-preserved g c =
    let u = c.loop-call.session in let z = c.make_call.new.session in let inv = c.loop-call.invariant in let len = inv.len in let more = c.push_reserved.ensures.len in
    record {
      session = holds_later z.shards.now u.walker z.walker u.progress z.progress (subst (λ x. Holds x.now u.walker u.progress) (sym c.make_call.ensures.shards) inv.session) c.make_call.ensures.session c.make_call.ensures.later;
      saved = c.make_call.ensures.saved;
      shards = c.make_call.ensures.shards ∙ inv.shards;
      number = c.make_call.ensures.later.number_is ∙ inv.number;
      len = (omega arith);
      room = c.push_reserved.ensures.capacity ∙ inv.room;
    }
