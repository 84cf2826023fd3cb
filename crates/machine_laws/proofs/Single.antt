-- Events of one call.
use Rattle.std.proofs.Common.{◌≡◌, true, false, refl}
use Rattle.std.proofs.lemmas.Bool.{both_ways}
use Rattle.clv_base.specs.declared.events.Event.{Event}
use Rattle.clv_base.specs.declared.events.Event.TheVariants.{Op, RollTo, Request, Look, Drop, Send, Deliver, Remind, FlushOut, FlushIn, Stop, Restart}
use Rattle.machine_calls.specs.Events.{is_stepped}
use Rattle.machine_laws.specs.Homes.{is_single, is_turned}
use Rattle.machine_laws.proofs.Calm.{is_flush_out}

pub record Single (e : Event) : Type 0 where
  pub turned : is_turned e ≡ true
  pub stepped : is_stepped e ≡ true
  pub no_flush : is_flush_out e ≡ false

pub singly : (e : Event) → is_single e ≡ true → Single e
singly (Op tx birth nth seen op) h = record { turned = refl; stepped = refl; no_flush = refl }
singly (RollTo tx nth seen upto) h = record { turned = refl; stepped = refl; no_flush = refl }
singly (Request tx ts) h = record { turned = refl; stepped = refl; no_flush = refl }
singly (Look tx) h = record { turned = refl; stepped = refl; no_flush = refl }
singly (Drop tx) h = record { turned = refl; stepped = refl; no_flush = refl }
singly Send h = record { turned = refl; stepped = refl; no_flush = refl }
singly (Deliver m stamp) h = record { turned = refl; stepped = refl; no_flush = refl }
singly Remind h = record { turned = refl; stepped = refl; no_flush = refl }
singly FlushOut h = absurd (both_ways false refl h)
singly FlushIn h = absurd (both_ways false refl h)
singly Stop h = absurd (both_ways false refl h)
singly Restart h = absurd (both_ways false refl h)
