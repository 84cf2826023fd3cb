use Rattle.std.proofs.Common.{sym, ap, subst}
use Rattle.script_runs.specs.Told.{CommitTold}
use Rattle.session_api.specs.Standing.{seen_in}
use Rattle.session_api.specs.Savepoints.{leads_of}
use Rattle.session_api.proofs.SavedCalls.{commit_saves}
use Rattle.session_api.proofs.ScriptEnding.{commit_answers, commit_call}
use Rattle.session_api.proofs.calls.ScriptSessionSessionCalls.commit.Goals as goal

pub committed-requires : goal.committed-requires
committed-requires g c = let s = c.args.self.now.session in let z = c.commit-answer.new.self in let e = c.commit-answer.ensures in
    record { made = commit_answers s.shards.now c.args.self.now.asked z.shards.now s.walker z.walker s.progress z.progress c.args.self.now.saves c.commit-answer.result (ap (λ x. x.now) e.shards) c.requires.session.holds c.requires.active c.requires.whole e.told e.session }

pub returns-clause-session : goal.returns-clause-session
returns-clause-session g c = let s = c.args.self.now.session in let z = c.commit-answer.new.self in let e = c.commit-answer.ensures in let h = c.requires.session in
    record {
      holds = (commit_call s.shards.now c.args.self.now.asked z.shards.now s.walker z.walker s.progress z.progress c.args.self.now.saves c.commit-answer.result c.committed.result (ap (λ x. x.now) e.shards) h.holds c.requires.active c.requires.whole e.told e.session c.committed.ensures.told).holds.holds;
      saved = e.saved;
      leads = commit_saves s.shards.now s.walker z.walker s.progress z.progress c.commit-answer.result (leads_of c.args.self.now.saves.standing) e.told h.leads;
      numbered = h.numbered;
      rise = h.rise;
    }

pub returns-clause-misses : goal.returns-clause-misses
returns-clause-misses g c = let s = c.args.self.now.session in let z = c.commit-answer.new.self in let e = c.commit-answer.ensures in
    (commit_call s.shards.now c.args.self.now.asked z.shards.now s.walker z.walker s.progress z.progress c.args.self.now.saves c.commit-answer.result c.committed.result (ap (λ x. x.now) e.shards) c.requires.session.holds c.requires.active c.requires.whole e.told e.session c.committed.ensures.told).holds.misses

pub returns-clause-told : goal.returns-clause-told
returns-clause-told g c tx birth nth touched st = let s = c.args.self.now.session in let z = c.commit-answer.new.self in let e = c.commit-answer.ensures in
    subst (λ x. CommitTold tx birth nth touched c.committed.result (seen_in s.shards.now s.walker c.args.self.now.asked s.progress) (seen_in z.shards.now z.walker x z.progress)) (sym c.last_asked-self.ensures)
    ((commit_call s.shards.now c.args.self.now.asked z.shards.now s.walker z.walker s.progress z.progress c.args.self.now.saves c.commit-answer.result c.committed.result (ap (λ x. x.now) e.shards) c.requires.session.holds c.requires.active c.requires.whole e.told e.session c.committed.ensures.told).told tx birth nth touched st)

pub returns-clause-grounds : goal.returns-clause-grounds
returns-clause-grounds g c = let s = c.args.self.now.session in let z = c.commit-answer.new.self in let e = c.commit-answer.ensures in
    (commit_call s.shards.now c.args.self.now.asked z.shards.now s.walker z.walker s.progress z.progress c.args.self.now.saves c.commit-answer.result c.committed.result (ap (λ x. x.now) e.shards) c.requires.session.holds c.requires.active c.requires.whole e.told e.session c.committed.ensures.told).grounds
