use Rattle.session_api.proofs.AfterRounds.{no_round}
use Rattle.session_api.proofs.session.Session.shard_down.Goals as goal

pub returns-clause-round : goal.returns-clause-round
returns-clause-round g c = let w = c.args.self.now.walker in no_round w.number w.clock w.passes.items
