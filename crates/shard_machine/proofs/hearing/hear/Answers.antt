-- What a message that fits names is as its call wants it.
use Rattle.std.proofs.Common.{◌≡◌, subst, true, nat_lt}
use Rattle.std.proofs.lemmas.Bool.{and_parts, ltb-true}
use Rattle.clv_base.specs.declared.messages.Message.{Message}
use Rattle.clv_base.specs.FileRules.{tx_has_spelling}
use Rattle.machine_calls.specs.Events.{message_fits}
use Rattle.shard_machine.proofs.hearing.hear.Goals as goal

pub take_prepare-requires-clause-home : goal.take_prepare-requires-clause-home
take_prepare-requires-clause-home g c =
    let m = c.in-Prepare in
    ltb-true m.home 16 (and_parts _ (nat_lt m.home 16) (subst (λ (x : Message). message_fits x ≡ true) m.is c.requires.fits)).1

pub take_decision-requires-clause-name : goal.take_decision-requires-clause-name
take_decision-requires-clause-name g c =
    let m = c.in-Decide in
    (and_parts (tx_has_spelling m.tx) _ (and_parts _ (nat_lt m.home 16) (subst (λ (x : Message). message_fits x ≡ true) m.is c.requires.fits)).0).0
