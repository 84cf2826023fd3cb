use Rattle.std.proofs.Common.{Ok, Err}
use Rattle.live_sessions.proofs.Doing.{drops}
use Rattle.live_sessions.proofs.Turning.{down_leads}
use Rattle.live_sessions.proofs.answering.drop_down.Goals as goal

pub returns-in-Ok-clause-dropped : goal.returns-in-Ok-clause-dropped
returns-in-Ok-clause-dropped g c = drops (g.C.SessionCalls.missed c.abort.new.self) (Ok (tt {0})) _ _ c.requires.active c.in-Ok.ensures.told

pub returns-in-Err-clause-dropped : goal.returns-in-Err-clause-dropped
returns-in-Err-clause-dropped g c = drops (g.C.SessionCalls.missed c.abort.new.self) (Err c.in-Err.cause) _ _ c.requires.active c.in-Err.ensures.told

pub returns-in-Err-clause-leads : goal.returns-in-Err-clause-leads
returns-in-Err-clause-leads g c = down_leads (g.C.SessionCalls.missed c.abort.new.self) c.in-Err.cause _ _ c.ends.result.course c.ends.result.reply c.args.shard c.requires.active c.in-Err.ensures.told c.ends.ensures.0 c.ends.ensures.1
