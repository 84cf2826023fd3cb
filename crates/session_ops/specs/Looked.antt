-- What a look at a request tells, and what holds after it.
use Rattle.std.specs.Prelude.{ℕ, Bool, true, false, Result, Ok}
use Rattle.clv_base.specs.declared.events.Outcome.{Outcome}
use Rattle.clv_base.specs.declared.events.Outcome.TheVariants.{Acknowledged, Aborted, NotYet, Down}
use Rattle.clv_base.specs.Sessions.{SessionState, Told, Refused}
use Rattle.machine_calls.specs.declared.machine.StepError.{StepError}
use Rattle.cluster_turns.specs.declared.shards.Shards.{Shards}
use Rattle.cluster_turns.specs.declared.shards.Walker.{Walker}
use Rattle.session_ops.specs.Standing.{IsReady, IsOver, IsGoneAt}
use Rattle.session_ops.specs.Requested.{IsStanding}

-- what a look may come to
abbrev pub is_look_outcome : Outcome → Bool
is_look_outcome Acknowledged = true
is_look_outcome (Aborted cause) = true
is_look_outcome NotYet = true
is_look_outcome Down = true
is_look_outcome _ = false

-- the place after it; quiet answers leave it
abbrev pub place_looked : SessionState → Result Outcome StepError → SessionState
place_looked p (Ok Acknowledged) = record p { phase = Told }
place_looked p (Ok (Aborted cause)) = record p { phase = Refused }
place_looked p _ = p

module _ {M S G : Type 0} where
  -- after an answer: the transaction is committed, or aborted, and gone at its home, or its request stands as before
  abbrev pub LookStands : Shards M S G → Walker M S G → SessionState → ℕ → Result Outcome StepError → Type 0
  LookStands sh w p home (Ok Acknowledged) = IsReady sh w p
  LookStands sh w p home (Ok (Aborted cause)) = IsOver sh w p × IsGoneAt home w p
  LookStands sh w p home _ = IsStanding sh w p home
