use Rattle.std.proofs.Common.{sym, subst}
use Rattle.session_api.specs.declared.progress.Progress.TheVariants.{Active}
use Rattle.session_api.specs.Savepoints.{Saved}
use Rattle.session_api.proofs.SavedCalls.{retried_saves}
use Rattle.session_api.proofs.session.Session.retry_ended.Goals as goal

pub returns-in-Ok-clause-saved : goal.returns-in-Ok-clause-saved
returns-in-Ok-clause-saved g c = let s = c.args.self.now in
    subst (Saved (Active c.in-Ok.place)) (sym c.clear.ensures.items) (retried_saves s.shards.now s.walker c.retry.new.walker c.args.last c.in-Ok.place c.in-Ok.ensures.retried.1)
