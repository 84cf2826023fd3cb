use Rattle.std.proofs.Common.{sym, subst}
use Rattle.session_api.proofs.Keeping.{abort_session}
use Rattle.session_api.proofs.SavedCalls.{abort_saved}
use Rattle.session_api.specs.Savepoints.{Saved}
use Rattle.session_api.specs.Sessions.{IsSession}
use Rattle.session_api.proofs.session.Session.abort_active.Goals as goal

pub returns-clause-session : goal.returns-clause-session
returns-clause-session g c = let sh = c.args.self.now.shards.now in let w = c.args.self.now.walker in let v = c.abort-answer.new.walker in let p = c.args.place in let q = c.abort-answer.new.place in let r = c.abort-answer.result in let e = c.abort-answer.ensures in
    subst (λ t. IsSession sh v t) (sym c.after_abort.ensures) (abort_session sh w v p q r c.requires.landed c.requires.unasked e.walker e.drops e.place e.stands)

pub returns-clause-saved : goal.returns-clause-saved
returns-clause-saved g c = let saves = c.args.self.now.saves.items in
    subst (λ t. Saved t saves) (sym c.after_abort.ensures) (abort_saved c.args.place c.abort-answer.new.place c.abort-answer.result saves c.abort-answer.ensures.place c.requires.saved)
