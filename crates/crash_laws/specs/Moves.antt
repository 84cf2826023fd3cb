-- What an event makes of a shard.
use Rattle.std.specs.Prelude.{◌≡◌, Bool, true, false, Option, Some, None}
use Rattle.clv_base.specs.declared.events.Outcome.{Outcome}
use Rattle.clv_base.specs.State.{Shard}
use Rattle.clv_base.specs.Events.{CallAnswer, Quiet, Worn, Enters}

-- no entry is made
abbrev pub is_idle : CallAnswer → Bool
is_idle (Quiet o) = true
is_idle Worn = true
is_idle (Enters o t) = false

-- from s to t, where this is the definitions' answer: by the entry with this outcome; or there is none, and the shard is as it was
abbrev pub Moves : CallAnswer → Shard → Option Outcome → Shard → Type 0
Moves answer s None t = (is_idle answer ≡ true) × (t ≡ s)
Moves answer s (Some o) t = answer ≡ Enters o t
