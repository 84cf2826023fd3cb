use Rattle.std.proofs.Common.{◌∙◌, sym}
use Rattle.turn_lock.proofs.Grown.{grown_option}
use Rattle.session_examples.specs.Records.{maker_of}
use Rattle.session_examples.proofs.visits.fetch.Goals as goal

pub leave-requires-clause-grown : goal.leave-requires-clause-grown
leave-requires-clause-grown g c = let t = c.enter-turn.ensures.turn in let s = c.take_device-device in
    grown_option maker_of _ _ c.enter-turn.result.1.records.items _ _ s.result t.3 s.ensures.journal (sym c.requires.1 ∙ sym t.1)
