use Rattle.std.proofs.Common.{◌∙◌, ◌++◌, ◌∷◌, [], refl, rules}
use Rattle.live_sessions.specs.Served.{none_taken, line_taken}
use Rattle.live_sessions.proofs.Doing.{idle_active, more}
use Rattle.live_sessions.proofs.serving.serve_session.Goals as goal

pub loop-init : goal.loop-init
loop-init g c = record {
  session = c.requires.session;
  base = refl;
  misses = λ tx n es h. h;
  course = λ active. idle_active (g.C.SessionCalls.seen c.args.session.now) c.requires.idle active;
  asked = [];
  replies = [];
  took = search rules;
  told = search rules;
  served = none_taken (g.C.SessionCalls.seen c.args.session.now) _ (g.C.SessionCalls.going c.args.session.now) (refl, refl);
  inbox = g.met.I.Inbox.itself c.args.inbox.now;
  outbox = g.met.O.Outbox.itself c.args.outbox.now;
}

pub loop-preserved : goal.loop-preserved
loop-preserved g c =
    let i = c.loop.invariant in record {
      session = c.answer-reply.ensures.session;
      base = c.answer-reply.ensures.base ∙ i.base;
      misses = λ tx n es h. c.answer-reply.ensures.misses tx n es (i.misses tx n es h);
      course = c.answer-reply.ensures.course;
      asked = i.asked ++ c.in-Some-take.asked ∷ [];
      replies = i.replies ++ c.answer-reply.result.reply ∷ [];
      took = more _ _ i.asked c.in-Some-take.asked _ i.took c.in-Some-take.ensures.taken;
      told = more _ _ i.replies c.answer-reply.result.reply _ i.told c.in-Ok.ensures.ok;
      served = line_taken i.asked i.replies c.in-Some-take.asked c.answer-reply.result.reply _ _ _ _ _ _ _ i.served c.answer-reply.ensures.did c.answer-reply.ensures.over c.answer-reply.ensures.turns;
      inbox = g.met.I.Inbox.still c.args.inbox.now c.loop.inbox c.take.new.self i.inbox c.take.ensures.same;
      outbox = g.met.O.Outbox.still c.args.outbox.now c.loop.outbox c.tell.new.self i.outbox c.tell.ensures.same;
    }

pub returns-in-Err-clause-served : goal.returns-in-Err-clause-served
returns-in-Err-clause-served g c =
    let i = c.loop.invariant in record {
      asked = i.asked ++ c.in-Some-take.asked ∷ [];
      replies = i.replies ++ c.answer-reply.result.reply ∷ [];
      last = g.C.SessionCalls.seen c.answer-reply.new.session;
      course = c.answer-reply.result.course;
      over = g.C.SessionCalls.going c.answer-reply.new.session;
      took = more _ _ i.asked c.in-Some-take.asked _ i.took c.in-Some-take.ensures.taken;
      served = line_taken i.asked i.replies c.in-Some-take.asked c.answer-reply.result.reply _ _ _ _ _ _ _ i.served c.answer-reply.ensures.did c.answer-reply.ensures.over c.answer-reply.ensures.turns;
      tells = (i.replies, c.answer-reply.result.reply, refl, c.in-Err.ensures.gone ∙ i.told);
      closes = c.close-in-Err.ensures.closes;
    }
