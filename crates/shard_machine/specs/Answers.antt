-- What an event comes to, for the stamp of its entry and the place of it in the journal.
use Rattle.std.specs.Prelude.{◌≡◌, ℕ, ◌^◌, Bool, true, false, Option, Some, None}
use Rattle.clv_base.specs.declared.events.Outcome.{Outcome}
use Rattle.clv_base.specs.declared.events.Outcome.TheVariants.{Wait, Crowded}
use Rattle.clv_base.specs.Events.{Reply, QuietBeforeWorn, QuietAfterWorn, Does}
use Rattle.machine_calls.specs.declared.machine.StepError.{StepError}
use Rattle.machine_calls.specs.declared.machine.StepError.TheVariants.{Memory, Worn}

-- it goes on to its stamp and its place: it is done, or an operation waits or is crowded
abbrev pub is_late : Outcome → Bool
is_late (Wait younger) = true
is_late (Crowded count) = true
is_late _ = false

abbrev pub goes_on : Reply → Bool
goes_on (QuietBeforeWorn o) = false
goes_on (QuietAfterWorn o) = is_late o
goes_on (Does o t) = true

-- why it is not: there is no stamp, or there is one and no memory
abbrev pub Refuses : Option ℕ → StepError → Type 0
Refuses None (Worn at) = at ≡ 2 ^ 48
Refuses None Memory = ⊥
Refuses (Some n) (Worn at) = ⊥
Refuses (Some n) Memory = Unit {0}

-- there is no stamp, and that is why
abbrev pub IsWorn : Option ℕ → StepError → Type 0
IsWorn stamp e = (stamp ≡ None) × (e ≡ Worn (2 ^ 48))
