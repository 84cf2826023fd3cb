-- An event that is one call of a machine.
use Rattle.std.proofs.Common.{◌≡◌, refl, true, ℕ}
use Rattle.std.proofs.lemmas.Bool.{both_ways}
use Rattle.clv_base.specs.declared.events.CoreStep.{CoreStep}
use Rattle.clv_base.specs.declared.events.Event.{Event}
use Rattle.clv_base.specs.declared.events.Event.TheVariants.{Op, RollTo, Request, Look, Drop, Send, Deliver, Remind, FlushOut, FlushIn, Stop, Restart}
use Rattle.clv_base.specs.State.{Shard}
use Rattle.clv_base.specs.Events.{step}
use Rattle.clv_base.specs.Core.{answer_by}
use Rattle.machine_calls.specs.Events.{is_stepped}

pub answer_is : (clock : ℕ) (c : CoreStep) (s : Shard) (e : Event) → is_stepped e ≡ true → step s clock c.walker e ≡ answer_by clock c s e
answer_is clock c s (Op tx birth nth seen op) h = refl
answer_is clock c s (RollTo tx nth seen upto) h = refl
answer_is clock c s (Request tx ts) h = refl
answer_is clock c s (Look tx) h = refl
answer_is clock c s (Drop tx) h = refl
answer_is clock c s Send h = refl
answer_is clock c s (Deliver m stamp) h = refl
answer_is clock c s Remind h = refl
answer_is clock c s FlushOut h = refl
answer_is clock c s FlushIn h = absurd (both_ways (is_stepped FlushIn) refl h)
answer_is clock c s Stop h = refl
answer_is clock c s Restart h = absurd (both_ways (is_stepped Restart) refl h)
