use Rattle.std.proofs.Common.{◌∙◌, sym, ap, subst}
use Rattle.session_api.specs.Progresses.{progress_committed}
use Rattle.session_api.proofs.Keeping.{commit_session, told_point}
use Rattle.session_api.proofs.SavedCalls.{commit_saved}
use Rattle.session_api.specs.Savepoints.{Saved}
use Rattle.session_api.specs.Sessions.{IsSession}
use Rattle.session_api.proofs.session.Session.commit_active.Goals as goal

pub returns-clause-session : goal.returns-clause-session
returns-clause-session g c = let sh = c.args.self.now.shards.now in let w = c.args.self.now.walker in let v = c.commit-ended.new.walker in let p = c.args.place in let q = c.commit-ended.new.place in let r = c.commit-ended.result.answer in let e = c.commit-ended.ensures in
    subst (λ t. IsSession sh v t) (sym c.after_commit.ensures)
    (subst (λ b. IsSession sh v (progress_committed q c.commit-ended.result.stamp b)) (sym c.is_empty-empty.ensures) (commit_session sh w v p q c.commit-ended.result.stamp r c.requires.session e.walker e.turns e.stands))

pub returns-clause-saved : goal.returns-clause-saved
returns-clause-saved g c = let sh = c.args.self.now.shards.now in let w = c.args.self.now.walker in let v = c.commit-ended.new.walker in let q = c.commit-ended.new.place in let ended = c.commit-ended.result in let saves = c.args.self.now.saves.items in
    subst (λ t. Saved t saves) (sym c.after_commit.ensures) (commit_saved sh w v c.args.place q ended.stamp c.is_empty-empty.result ended.answer saves c.commit-ended.ensures.turns c.requires.saved)

pub returns-clause-told : goal.returns-clause-told
returns-clause-told g c = let q = c.commit-ended.new.place in let e = c.commit-ended.ensures in let ended = c.commit-ended.result in
    record {
      answer = ended.answer;
      place = q;
      stamp = ended.stamp;
      told = e.turns;
      walker = e.walker;
      stands = e.stands;
      is = c.told.ensures;
      then = c.after_commit.ensures ∙ ap (progress_committed q ended.stamp) c.is_empty-empty.ensures;
      point = told_point c.args.self.now.shards.now c.commit-ended.new.walker c.args.place ended.answer c.told.result c.told.ensures e.point;
    }
