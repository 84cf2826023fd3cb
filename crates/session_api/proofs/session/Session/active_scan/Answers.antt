use Rattle.std.proofs.Common.{sym, ap, subst}
use Rattle.session_api.specs.Progresses.{after_op}
use Rattle.session_api.proofs.Keeping.{scan_session}
use Rattle.session_api.proofs.SavedCalls.{scan_saved}
use Rattle.session_api.specs.Savepoints.{Saved}
use Rattle.session_api.specs.Sessions.{IsSession, ScanMade}
use Rattle.session_api.proofs.session.Session.active_scan.Goals as goal

pub returns-clause-session : goal.returns-clause-session
returns-clause-session g c = let sh = c.args.self.now.shards.now in let w = c.args.self.now.walker in let v = c.scan-answer.new.walker in let p = c.args.place in let q = c.scan-answer.new.place in let r = c.scan-answer.result in let e = c.scan-answer.ensures in
    let b = c.requires.session.stands.born in
    let t = e.turns b.birth b.is in
    subst (λ s. IsSession s.shards.now s.walker s.progress) (sym c.go_on.ensures)
    (subst (λ d. IsSession sh v (after_op q d)) (sym c.is_dead-died.ensures) (scan_session sh w v p q t.turns r c.requires.session e.walker t.took e.stands))

pub returns-clause-saved : goal.returns-clause-saved
returns-clause-saved g c = let sh = c.args.self.now.shards.now in let w = c.args.self.now.walker in let v = c.scan-answer.new.walker in let p = c.args.place in let q = c.scan-answer.new.place in let saves = c.args.self.now.saves.items in
    subst (λ s. Saved s.progress s.saves.items) (sym c.go_on.ensures)
    (subst (λ b. Saved (after_op q b) saves) (sym c.is_dead-died.ensures) (scan_saved sh w v p q c.args.lo c.args.hi c.scan-answer.result saves c.requires.session c.scan-answer.ensures.parts c.requires.saved))

pub returns-clause-told : goal.returns-clause-told
returns-clause-told g c = let sh = c.args.self.now.shards.now in let w = c.args.self.now.walker in let v = c.scan-answer.new.walker in let p = c.args.place in let q = c.scan-answer.new.place in let r = c.scan-answer.result in let e = c.scan-answer.ensures in
    subst (λ s. ScanMade sh w p c.args.lo c.args.hi c.answered.result s.walker s.progress) (sym c.go_on.ensures) (record {
      answer = r;
      place = q;
      turns = e.turns;
      parts = e.parts;
      same = e.same;
      walker = e.walker;
      stands = e.stands;
      is = c.answered.ensures;
      then = ap (after_op q) c.is_dead-died.ensures;
    })
