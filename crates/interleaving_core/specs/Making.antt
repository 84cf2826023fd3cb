-- What a step makes on its shard.
use Rattle.std.specs.Prelude.{◌≡◌, true, Option, Some, None}
use Rattle.clv_base.specs.declared.events.CoreStep.{CoreStep}
use Rattle.clv_base.specs.declared.events.Entry.{Entry}
use Rattle.clv_base.specs.State.{Shard}
use Rattle.clv_base.specs.Events.{CallAnswer}
use Rattle.clv_base.specs.Core.{entry_of}
use Rattle.machine_calls.specs.Events.{sends_fit}
use Rattle.crash_laws.specs.Moves.{Moves}

-- from s to t, where this is the definitions' answer: its entry, or none
abbrev pub MakesEntry : CallAnswer → CoreStep → Shard → Option Entry → Shard → Type 0
MakesEntry answer c s None t = Moves answer s None t
MakesEntry answer c s (Some e) t = Moves answer s (Some e.outcome) t × (e ≡ entry_of c e.outcome t) × (sends_fit e.outcome ≡ true)
