use Rattle.std.proofs.Common.{sym, subst}
use Rattle.session_api.proofs.Keeping.{looks_session, looks_point}
use Rattle.session_api.proofs.SavedCalls.{look_saved}
use Rattle.session_api.specs.Savepoints.{Saved}
use Rattle.session_api.specs.Sessions.{IsSession}
use Rattle.session_api.proofs.session.Session.look_again.Goals as goal

pub returns-clause-session : goal.returns-clause-session
returns-clause-session g c = let sh = c.args.self.now.shards.now in let w = c.args.self.now.walker in let v = c.finish-answer.new.walker in let p = c.args.place in let q = c.finish-answer.new.place in let r = c.finish-answer.result in let e = c.finish-answer.ensures in
    subst (λ t. IsSession sh v t) (sym c.after_request.ensures) (looks_session sh w v p q c.args.home c.args.stamp r c.requires.session e.walker e.turns e.stands)

pub returns-clause-saved : goal.returns-clause-saved
returns-clause-saved g c = let sh = c.args.self.now.shards.now in let w = c.args.self.now.walker in let v = c.finish-answer.new.walker in let q = c.finish-answer.new.place in let saves = c.args.self.now.saves.items in
    subst (λ t. Saved t saves) (sym c.after_request.ensures) (look_saved sh w v c.args.place q c.args.home c.args.stamp c.finish-answer.result saves c.finish-answer.ensures.turns)

pub returns-clause-told : goal.returns-clause-told
returns-clause-told g c = let q = c.finish-answer.new.place in let e = c.finish-answer.ensures in let r = c.finish-answer.result in
    record {
      answer = r;
      place = q;
      turns = e.turns;
      walker = e.walker;
      stands = e.stands;
      is = c.settled.ensures;
      then = c.after_request.ensures;
      point = looks_point c.args.self.now.shards.now c.args.self.now.walker c.finish-answer.new.walker c.args.place q c.args.home c.args.stamp r c.settled.result c.requires.session e.turns c.settled.ensures;
    }
