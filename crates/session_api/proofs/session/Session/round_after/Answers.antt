use Rattle.session_api.proofs.AfterRounds.{found_so}
use Rattle.session_api.proofs.session.Session.round_after.Goals as goal

pub returns-clause-round : goal.returns-clause-round
returns-clause-round g c = let w = c.args.self.now.walker in let v = c.round-answer.new.self.walker in
    found_so w.number w.clock v.clock w.passes.items v.passes.items c.round-answer.result c.found_by.result c.found_by.ensures c.round-answer.ensures.round
