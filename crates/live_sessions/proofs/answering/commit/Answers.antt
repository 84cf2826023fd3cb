use Rattle.std.proofs.Common.{◌∙◌}
use Rattle.live_sessions.proofs.Doing.{commit_other, commit_did, over_ended}
use Rattle.live_sessions.proofs.answering.commit.Goals as goal

pub end_by-requires : goal.end_by-requires
end_by-requires g c = record {
  session = c.commit.ensures.session;
  other = let a = c.requires.active in commit_other a.0 a.1 a.2 a.3 c.commit.result _ _ c.in_default.not-Acknowledged c.in_default.not-Empty (c.commit.ensures.told a.0 a.1 a.2 a.3 a.4);
  grounds = c.commit.ensures.grounds;
}

pub returns-in_default : goal.returns-in_default
returns-in_default g c = record {
  session = c.end_by.ensures.session;
  base = c.end_by.ensures.base ∙ c.commit.ensures.base;
  misses = λ tx n es h. c.end_by.ensures.misses tx n es (c.commit.ensures.misses tx n es h);
  did = let a = c.requires.active in commit_did (g.C.SessionCalls.going c.args.session.now) a.0 a.1 a.2 a.3 c.commit.result _ _ _ _ a.4 (c.commit.ensures.told a.0 a.1 a.2 a.3 a.4) c.end_by.ensures.ended;
  over = over_ended c.commit.result _ _ _ _ _ _ c.end_by.ensures.ended;
  leads = c.end_by.ensures.leads;
  course = c.end_by.ensures.course;
}
