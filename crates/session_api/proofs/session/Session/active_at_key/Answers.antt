use Rattle.std.proofs.Common.{sym, ap, subst}
use Rattle.session_ops.specs.Parts.{whole_in}
use Rattle.session_api.specs.Progresses.{after_op}
use Rattle.session_api.proofs.Keeping.{point_session}
use Rattle.session_api.proofs.Saving.{point_saved}
use Rattle.session_api.specs.Savepoints.{Saved}
use Rattle.session_api.specs.Sessions.{IsSession, PointMade}
use Rattle.session_api.proofs.session.Session.active_at_key.Goals as goal

pub returns-clause-session : goal.returns-clause-session
returns-clause-session g c = let sh = c.args.self.now.shards.now in let w = c.args.self.now.walker in let v = c.at_key-answer.new.walker in let p = c.args.place in let q = c.at_key-answer.new.place in let r = c.at_key-answer.result in let e = c.at_key-answer.ensures in
    subst (λ s. IsSession s.shards.now s.walker s.progress) (sym c.go_on.ensures)
    (subst (λ b. IsSession sh v (after_op q b)) (sym c.is_dead-died.ensures) (point_session sh whole_in w v p q c.args.op c.args.key r c.requires.session e.walker e.told e.stands))

pub returns-clause-saved : goal.returns-clause-saved
returns-clause-saved g c = let sh = c.args.self.now.shards.now in let w = c.args.self.now.walker in let v = c.at_key-answer.new.walker in let p = c.args.place in let q = c.at_key-answer.new.place in let saves = c.args.self.now.saves.items in
    subst (λ s. Saved s.progress s.saves.items) (sym c.go_on.ensures)
    (subst (λ b. Saved (after_op q b) saves) (sym c.is_dead-died.ensures) (point_saved whole_in sh w v p q c.args.op c.args.key c.at_key-answer.result saves c.at_key-answer.ensures.told c.requires.saved))

pub returns-clause-told : goal.returns-clause-told
returns-clause-told g c = let sh = c.args.self.now.shards.now in let w = c.args.self.now.walker in let v = c.at_key-answer.new.walker in let p = c.args.place in let q = c.at_key-answer.new.place in let r = c.at_key-answer.result in let e = c.at_key-answer.ensures in
    subst (λ s. PointMade whole_in sh w p c.args.op c.args.key c.answered.result s.walker s.progress) (sym c.go_on.ensures) (record {
      answer = r;
      place = q;
      told = e.told;
      walker = e.walker;
      stands = e.stands;
      is = c.answered.ensures;
      then = ap (after_op q) c.is_dead-died.ensures;
    })
