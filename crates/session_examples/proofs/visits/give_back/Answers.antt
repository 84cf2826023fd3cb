use Rattle.std.proofs.Common.{ap}
use Rattle.turn_lock.proofs.Grown.{grown_none}
use Rattle.session_examples.specs.Records.{maker_of}
use Rattle.session_examples.proofs.visits.give_back.Goals as goal

pub leave-requires-clause-grown : goal.leave-requires-clause-grown
leave-requires-clause-grown g c = let t = c.enter-turn.ensures.turn in grown_none maker_of _ _ c.enter-turn.result.1.records.items _ t.3 (ap (λ v. v.items) c.put_device-other.ensures.rest.0)
