use Rattle.std.proofs.Common.{ap}
use Rattle.session_api.specs.Savepoints.{leads_of}
use Rattle.session_api.proofs.SavedCalls.{abort_saves}
use Rattle.session_api.proofs.ScriptEnding.{abort_answers, abort_call}
use Rattle.session_api.proofs.calls.ScriptSessionSessionCalls.abort.Goals as goal

pub aborted-requires : goal.aborted-requires
aborted-requires g c = let s = c.args.self.now.session in let z = c.abort.new.self in let e = c.abort.ensures in
    record { made = abort_answers s.shards.now c.args.self.now.asked z.shards.now s.walker z.walker s.progress z.progress c.abort.result (ap (λ x. x.now) e.shards) c.requires.session.holds c.requires.active e.told e.session }

pub returns-clause-session : goal.returns-clause-session
returns-clause-session g c = let s = c.args.self.now.session in let z = c.abort.new.self in let e = c.abort.ensures in let h = c.requires.session in
    record {
      holds = (abort_call s.shards.now c.args.self.now.asked z.shards.now s.walker z.walker s.progress z.progress c.abort.result c.aborted.result (ap (λ x. x.now) e.shards) h.holds c.requires.active e.told e.session c.aborted.ensures.told).holds.holds;
      saved = e.saved;
      leads = abort_saves s.shards.now s.walker z.walker z.progress c.abort.result (leads_of c.args.self.now.saves.standing) s.progress e.told h.leads;
      numbered = h.numbered;
      rise = h.rise;
    }

pub returns-clause-misses : goal.returns-clause-misses
returns-clause-misses g c = let s = c.args.self.now.session in let z = c.abort.new.self in let e = c.abort.ensures in
    (abort_call s.shards.now c.args.self.now.asked z.shards.now s.walker z.walker s.progress z.progress c.abort.result c.aborted.result (ap (λ x. x.now) e.shards) c.requires.session.holds c.requires.active e.told e.session c.aborted.ensures.told).holds.misses

pub returns-clause-told : goal.returns-clause-told
returns-clause-told g c = let s = c.args.self.now.session in let z = c.abort.new.self in let e = c.abort.ensures in
    (abort_call s.shards.now c.args.self.now.asked z.shards.now s.walker z.walker s.progress z.progress c.abort.result c.aborted.result (ap (λ x. x.now) e.shards) c.requires.session.holds c.requires.active e.told e.session c.aborted.ensures.told).told

pub returns-clause-grounds : goal.returns-clause-grounds
returns-clause-grounds g c = let s = c.args.self.now.session in let z = c.abort.new.self in let e = c.abort.ensures in
    (abort_call s.shards.now c.args.self.now.asked z.shards.now s.walker z.walker s.progress z.progress c.abort.result c.aborted.result (ap (λ x. x.now) e.shards) c.requires.session.holds c.requires.active e.told e.session c.aborted.ensures.told).grounds

pub returns-clause-keeps : goal.returns-clause-keeps
returns-clause-keeps g c = let s = c.args.self.now.session in let z = c.abort.new.self in let e = c.abort.ensures in
    (abort_call s.shards.now c.args.self.now.asked z.shards.now s.walker z.walker s.progress z.progress c.abort.result c.aborted.result (ap (λ x. x.now) e.shards) c.requires.session.holds c.requires.active e.told e.session c.aborted.ensures.told).keeps
