use Rattle.cluster_turns.specs.Walkers.{kept}
use Rattle.cluster_turns.proofs.Walking.{session_goes_on, single_session}
use Rattle.cluster_turns.proofs.shards.Shards.session_event.Goals as goal

pub event-requires-clause-single : goal.event-requires-clause-single
event-requires-clause-single g c = single_session c.args.event c.requires.session.0

pub event-requires-clause-goes : goal.event-requires-clause-goes
event-requires-clause-goes g c = session_goes_on c.args.self.now.splits c.args.self.now.run c.args.walker.now.number (kept c.args.walker.now.passes.items) c.args.shard c.args.event c.requires.may c.requires.session.0 c.requires.session.1
