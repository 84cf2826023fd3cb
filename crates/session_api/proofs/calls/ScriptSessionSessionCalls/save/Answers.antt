use Rattle.std.proofs.Common.{sym}
use Rattle.session_api.proofs.ScriptSaving.{held_kept}
use Rattle.session_api.proofs.calls.ScriptSessionSessionCalls.save.Goals as goal

pub returns-clause-session : goal.returns-clause-session
returns-clause-session g c = let s = c.args.self.now.session in
    held_kept s.shards.now s.walker s.progress s.saves.items c.args.self.now.saves c.keep.new.self c.in-Some.upto c.requires.session c.in_ok-keep-in-Some.ensures.ok (sym c.in-Some.ensures.count) c.in-Some.ensures.stands
