use Rattle.std.proofs.Common.{sym, subst}
use Rattle.session_api.specs.Savepoints.{Saved, saves_up_to}
use Rattle.session_api.specs.Sessions.{IsSession}
use Rattle.session_api.proofs.GoingBack.{back_session}
use Rattle.session_api.proofs.Saving.{back_keeps}
use Rattle.session_api.proofs.session.Session.go_back_active.Goals as goal

pub returns-clause-session : goal.returns-clause-session
returns-clause-session g c = let sh = c.args.self.now.shards.now in let v = c.roll_to-answer.new.walker in let e = c.roll_to-answer.ensures in
    subst (λ t. IsSession sh v t) (sym c.after_back.ensures)
    (back_session sh c.args.self.now.walker v c.args.place c.roll_to-answer.new.place c.args.upto c.roll_to-answer.result c.requires.session e.walker e.told e.left e.stands)

pub returns-clause-saved : goal.returns-clause-saved
returns-clause-saved g c = let sh = c.args.self.now.shards.now in let v = c.roll_to-answer.new.walker in let e = c.roll_to-answer.ensures in let saves = c.args.self.now.saves.items in
    subst (λ l. Saved c.after_back.result l) (sym c.forget_later.ensures)
    (subst (λ t. Saved t (saves_up_to c.args.upto saves)) (sym c.after_back.ensures)
    (back_keeps sh c.args.self.now.walker v c.args.place c.roll_to-answer.new.place c.args.upto c.roll_to-answer.result saves c.requires.saved e.told e.left))

pub returns-clause-saves : goal.returns-clause-saves
returns-clause-saves g c = c.forget_later.ensures

pub returns-clause-told : goal.returns-clause-told
returns-clause-told g c = let e = c.roll_to-answer.ensures in
    record {
      answer = c.roll_to-answer.result;
      place = c.roll_to-answer.new.place;
      turns = e.told;
      left = e.left;
      walker = e.walker;
      stands = e.stands;
      is = c.told.ensures;
      then = c.after_back.ensures;
    }
