use Rattle.std.proofs.Common.{sym, subst}
use Rattle.session_api.specs.declared.progress.Progress.TheVariants.{Active}
use Rattle.session_api.specs.Savepoints.{Saved}
use Rattle.session_api.proofs.SavedCalls.{begun_saves}
use Rattle.session_api.proofs.session.Session.begin_next.Goals as goal

pub returns-in-Ok-clause-saved : goal.returns-in-Ok-clause-saved
returns-in-Ok-clause-saved g c = let s = c.args.self.now in
    subst (Saved (Active c.in-Ok.place)) (sym c.clear.ensures.items) (begun_saves s.shards.now s.walker c.begin.new.walker c.in-Ok.place c.in-Ok.ensures.begun.1)
