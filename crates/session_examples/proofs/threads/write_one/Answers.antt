use Rattle.std.proofs.Common.{arith, ◌≡◌, ◌++◌, ◌∙◌, [], ◌∷◌, ap}
use Rattle.std.proofs.lemmas.Grind.{common_steps}
use Rattle.turn_lock.specs.Journals.{durable_of}
use Rattle.turn_lock.proofs.Sums.{durable_last}
use Rattle.session_examples.specs.declared.numbers.Entry.{Entry}
use Rattle.session_examples.proofs.threads.write_one.Goals as goal

pub returns-clause-found : goal.returns-clause-found
returns-clause-found g c = λ t.
    let more : c.write.new.self.entries.items ≡ c.enter-turn.result.1.entries.items ++ c.args.entry ∷ [] = grind (arith, common_steps) in
    omega (arith, durable_last (λ (e : Entry). e.number) c.enter-turn.result.1.entries.items c.args.entry, ap (durable_of (λ (e : Entry). e.number)) (c.leave.ensures.seen ∙ more))
