-- What a drop of a transaction's parts tells, and what holds after it.
use Rattle.std.specs.Prelude.{◌≡◌, ◌⊎◌, ℕ, ◌<◌, ◌≤◌, ◌==◌, Bool, true, false, not, ◌&&◌, List, [], ◌∷◌, Option, Some, None, is_some, Result, Ok, Err}
use Rattle.std.specs.List.{AllByRecursion}
use Rattle.std.specs.Map.{lookup}
use Rattle.clv_base.specs.declared.names.TxId.{TxId}
use Rattle.clv_base.specs.declared.events.Event.TheVariants.{Drop}
use Rattle.clv_base.specs.declared.events.Outcome.{Outcome}
use Rattle.clv_base.specs.declared.events.Outcome.TheVariants.{Dropped, Absent, Down}
use Rattle.clv_base.specs.Sessions.{SessionState, may_drop, after_drop}
use Rattle.turn_lock.specs.declared.pass.Pass.{Pass}
use Rattle.machine_calls.specs.declared.machine.StepError.{StepError}
use Rattle.machine_calls.specs.declared.machine.StepError.TheVariants.{Memory, Worn}
use Rattle.machine_laws.specs.declared.notes.Note.{Note}
use Rattle.machine_laws.specs.declared.notes.Origin.{Origin}
use Rattle.cluster_turns.specs.declared.shards.Shards.{Shards}
use Rattle.cluster_turns.specs.declared.shards.Walker.{Walker}
use Rattle.cluster_turns.specs.declared.shards.WornClock.{WornClock}
use Rattle.cluster_turns.specs.CallTurns.{Turn, Took, AnyTurn, FoundWorn}
use Rattle.session_ops.specs.Standing.{IsOver}

-- what a drop may come to
abbrev pub is_drop_outcome : Outcome → Bool
is_drop_outcome Dropped = true
is_drop_outcome Absent = true
is_drop_outcome Down = true
is_drop_outcome _ = false

-- the place after it; quiet answers leave it
abbrev pub place_dropped : SessionState → Result Outcome StepError → SessionState
place_dropped p (Ok Dropped) = record p { phase = after_drop p.phase }
place_dropped p _ = p

-- the shard was touched, and isn't the one that is left out
abbrev pub is_excepted : Option ℕ → ℕ → Bool
is_excepted None n = false
is_excepted (Some m) n = m == n

abbrev pub is_to_drop : List (ℕ × ℕ) → Option ℕ → ℕ → Bool
is_to_drop touched except n = is_some (lookup (◌==◌ n) touched) && not (is_excepted except n)

-- no stamp past the last was needed
abbrev pub is_worn : Result Outcome StepError → Bool
is_worn (Ok o) = false
is_worn (Err Memory) = false
is_worn (Err (Worn at)) = true

-- a turn is a drop of the transaction on such a shard
pub record Drops (tx : TxId) (touched : List (ℕ × ℕ)) (except : Option ℕ) (t : Turn) : Type 0 where
  pub event : t.event ≡ Drop tx
  pub shard : is_to_drop touched except t.shard ≡ true

-- worn where one of the turns was, and only there
abbrev pub WornBy : {A : Type 0} → Result A WornClock → List Turn → Type 0
WornBy (Ok a) ts = AllByRecursion (λ t. is_worn t.answer ≡ false) ts
WornBy (Err worn) ts = FoundWorn worn.at ts

-- what a turn that was answered so tells
abbrev pub TellsWorn : {A : Type 0} → Result Outcome StepError → Result A WornClock → Type 0
TellsWorn x r = (t : Turn) → t.answer ≡ x → WornBy r (t ∷ [])

-- the first that was worn
abbrev pub worse : {A : Type 0} → Result A WornClock → Result A WornClock → Result A WornClock
worse (Ok a) y = y
worse (Err worn) y = Err worn

-- the same place as before, or that of a transaction that was dropped
abbrev pub IsLeft : SessionState → SessionState → Type 0
IsLeft p q = (q ≡ p) ⊎ (q ≡ record p { phase = after_drop p.phase })

-- each touched shard from the first up to the end, but the one that is left out, had a drop of the transaction in a turn of its own, and there were no other turns
pub record Dropping {T A : Type 0} (w clock : ℕ) (before : List (Option (Pass T Note Origin))) (tx : TxId) (touched : List (ℕ × ℕ)) (except : Option ℕ) (first end : ℕ) (r : Result A WornClock) (clock' : ℕ)
    (after : List (Option (Pass T Note Origin))) : Type 0 where
  pub turns : List Turn
  pub took : Took w clock before turns clock' after
  pub only : AllByRecursion (Drops tx touched except) turns
  pub each : (n : ℕ) → first ≤ n → n < end → is_to_drop touched except n ≡ true → AnyTurn (λ t. t.shard ≡ n) turns
  pub told : WornBy r turns

module _ {M S G : Type 0} where
  -- the session's last transaction p may be dropped: it made no request, or was told of the abort
  pub record IsEnding (sh : Shards M S G) (w : Walker M S G) (p : SessionState) : Type 0 where
    pub over : IsOver sh w p
    pub may : may_drop p.phase ≡ true
