use Rattle.script_runs.specs.Ran.{stop_in}
use Rattle.script_runs.proofs.KeptTries.{kept_raised}
use Rattle.script_runs.proofs.Alone.{follows_raised, begins_past}
use Rattle.script_runs.proofs.seats.run_one.Goals as goal

pub returns-clause-follows : goal.returns-clause-follows
returns-clause-follows g c = let seen = g.C.SessionCalls.seen in let x = c.args.seat.now in let y = c.run_session-seat.new.session in
    follows_raised (g.C.SessionCalls.missed y) x.transactions.now c.args.most (stop_in c.run_session-seat.result) c.args.clock (seen x.session) (seen c.raise.new.self) (seen y) c.raise.ensures.raised c.run_session-seat.ensures.follows

pub returns-clause-past : goal.returns-clause-past
returns-clause-past g c = let seen = g.C.SessionCalls.seen in let x = c.args.seat.now in let y = c.run_session-seat.new.session in
    begins_past (g.C.SessionCalls.missed y) x.transactions.now c.args.most (stop_in c.run_session-seat.result) c.args.clock (seen x.session) (seen c.raise.new.self) (seen y) c.raise.ensures.raised c.run_session-seat.ensures.follows

pub run_session-seat-requires-clause-kept : goal.run_session-seat-requires-clause-kept
run_session-seat-requires-clause-kept g c = kept_raised (g.C.SessionCalls.seen c.args.seat.now.session) (g.C.SessionCalls.seen c.raise.new.self) c.args.clock c.args.seat.now.book c.raise.ensures.raised c.requires.kept
