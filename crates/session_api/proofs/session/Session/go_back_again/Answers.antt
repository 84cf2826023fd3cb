use Rattle.std.proofs.Common.{sym, subst}
use Rattle.session_api.specs.Savepoints.{Saved}
use Rattle.session_api.specs.Sessions.{IsSession}
use Rattle.session_api.proofs.GoingBack.{again_session}
use Rattle.session_api.proofs.SavedCalls.{again_rolled}
use Rattle.session_api.proofs.session.Session.go_back_again.Goals as goal

pub returns-clause-session : goal.returns-clause-session
returns-clause-session g c = let sh = c.args.self.now.shards.now in let v = c.roll_again-error.new.walker in let e = c.roll_again-error.ensures in
    subst (λ t. IsSession sh v t) (sym c.after_back.ensures)
    (again_session sh c.args.self.now.walker v c.args.place c.roll_again-error.new.place c.args.shard c.args.upto c.roll_again-error.result c.requires.session e.walker e.told e.left e.stands)

pub returns-clause-saved : goal.returns-clause-saved
returns-clause-saved g c = let sh = c.args.self.now.shards.now in let v = c.roll_again-error.new.walker in let saves = c.args.self.now.saves.items in
    subst (λ t. Saved t saves) (sym c.after_back.ensures)
    (again_rolled sh c.args.self.now.walker v c.args.place c.roll_again-error.new.place c.args.shard c.args.upto c.roll_again-error.result saves c.roll_again-error.ensures.told c.requires.saved)

pub returns-clause-told : goal.returns-clause-told
returns-clause-told g c = let e = c.roll_again-error.ensures in
    record { place = c.roll_again-error.new.place; turns = e.told; left = e.left; walker = e.walker; stands = e.stands; then = c.after_back.ensures }
