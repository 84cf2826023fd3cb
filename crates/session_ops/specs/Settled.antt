-- What the looks at a request tell, with their rounds, until it is decided.
use Rattle.std.specs.Prelude.{◌≡◌, ◌⊎◌, ⊤, ℕ, ◌==◌, true, false, is_some, List, ◌++◌, Option, Some, None, Result, Ok, Err}
use Rattle.std.specs.List.{AllByRecursion}
use Rattle.std.specs.Map.{lookup}
use Rattle.clv_base.specs.declared.names.TxId.{TxId}
use Rattle.clv_base.specs.declared.names.Point.{Point}
use Rattle.clv_base.specs.declared.events.Event.TheVariants.{Look}
use Rattle.clv_base.specs.declared.events.Outcome.{Outcome}
use Rattle.clv_base.specs.declared.events.Outcome.TheVariants.{Acknowledged, Aborted as AbortedOut, NotYet}
use Rattle.clv_base.specs.declared.events.Entry.{Entry}
use Rattle.clv_base.specs.Sessions.{SessionState, Told, Refused, is_of_session}
use Rattle.turn_lock.specs.declared.pass.Pass.{Pass}
use Rattle.machine_calls.specs.declared.machine.StepError.{StepError}
use Rattle.machine_calls.specs.declared.machine.StepError.TheVariants.{Memory as NoMemory, Worn as IsWorn}
use Rattle.machine_laws.specs.declared.notes.Note.{Note}
use Rattle.machine_laws.specs.declared.notes.Origin.{Origin}
use Rattle.cluster_turns.specs.declared.shards.Shards.{Shards}
use Rattle.cluster_turns.specs.declared.shards.Walker.{Walker}
use Rattle.cluster_turns.specs.CallTurns.{Turn, Took, AreOthers, AnyTurn, FoundDown, FoundWorn}
use Rattle.session_ops.specs.declared.parts.RoundError.{RoundError}
use Rattle.session_ops.specs.declared.parts.RoundError.TheVariants.{Down as RoundDown, Worn as RoundWorn, Memory as RoundMemory}
use Rattle.session_ops.specs.Rounds.{AllFoundAtRest}
use Rattle.session_ops.specs.Standing.{IsReady, IsOver, IsGoneAt}
use Rattle.session_ops.specs.Requested.{IsStanding}
use Rattle.session_ops.specs.declared.settled_looking.SettleError.{SettleError}
use Rattle.session_ops.specs.declared.settled_looking.SettleError.TheVariants.{Aborted, Unsettled, Worn, Memory}

-- what one look answers: none where it has to wait. An entry made just now has the clock's stamp
abbrev pub looked_as : ℕ → ℕ → Result Outcome StepError → Result (Option Point) SettleError
looked_as n clock (Ok Acknowledged) = Ok (Some (record { stamp = clock; shard = n }))
looked_as n clock (Ok (AbortedOut cause)) = Err (Aborted cause)
looked_as n clock (Ok NotYet) = Ok None
looked_as n clock (Ok _) = Err (Unsettled n)
looked_as n clock (Err NoMemory) = Err Memory
looked_as n clock (Err (IsWorn at)) = Err (Worn at)

-- a turn's look was answered this
abbrev pub IsLook : ℕ → TxId → Outcome → Turn → Type 0
IsLook n tx o t = (t.shard ≡ n) × (t.event ≡ Look tx) × (t.answer ≡ Ok o)

-- it was acknowledged, by the entry at this point
abbrev pub Acknowledges : ℕ → TxId → Point → Turn → Type 0
Acknowledges n tx point t = IsLook n tx Acknowledged t × ((x : Entry) × (t.made ≡ Some x) × (point ≡ record { stamp = x.stamp; shard = n }))

-- the transaction touched the shard
abbrev pub IsTouched : List (ℕ × ℕ) → ℕ → Type 0
IsTouched touched m = is_some (lookup (◌==◌ m) touched) ≡ true

-- behind a look that was told to wait, turns of a round found the shard down, and the decision needs it: the transaction touched it, or nothing moves
-- without it, as the round found each shard down or at rest
pub record IsHeldUp (count n : ℕ) (tx : TxId) (touched : List (ℕ × ℕ)) (m : ℕ) (ts : List Turn) : Type 0 where
  pub before : List Turn
  pub round : List Turn
  pub are : ts ≡ before ++ round
  pub waits : AnyTurn (IsLook n tx NotYet) before
  pub others : AreOthers round
  pub down : FoundDown m round
  pub needs : IsTouched touched m ⊎ AllFoundAtRest count round

-- what an answer tells of the turns of its call, of a request of p whose home is shard n; none yet tells that it waits
abbrev pub SettledBy : ℕ → ℕ → SessionState → Result (Option Point) SettleError → List Turn → Type 0
SettledBy count n p (Ok (Some point)) ts = AnyTurn (Acknowledges n p.tx point) ts
SettledBy count n p (Ok None) ts = AnyTurn (IsLook n p.tx NotYet) ts
SettledBy count n p (Err (Aborted cause)) ts = AnyTurn (IsLook n p.tx (AbortedOut cause)) ts
SettledBy count n p (Err (Unsettled m)) ts = FoundDown m ts × ((m ≡ n) ⊎ IsHeldUp count n p.tx p.touched m ts)
SettledBy count n p (Err (Worn at)) ts = FoundWorn at ts
SettledBy count n p (Err Memory) ts = ⊤

-- and of the place
abbrev pub PlacedBy : SessionState → Result (Option Point) SettleError → SessionState → Type 0
PlacedBy p (Ok (Some point)) q = q ≡ record p { phase = Told }
PlacedBy p (Ok None) q = q ≡ p
PlacedBy p (Err (Aborted cause)) q = q ≡ record p { phase = Refused }
PlacedBy p (Err (Unsettled m)) q = q ≡ p
PlacedBy p (Err (Worn at)) q = q ≡ p
PlacedBy p (Err Memory) q = q ≡ p

-- of a session's turns there are only looks at it
abbrev pub OnlyLooks : TxId → List Turn → Type 0
OnlyLooks tx ts = AllByRecursion (λ t. (is_of_session t.event ≡ false) ⊎ (t.event ≡ Look tx)) ts

pub record Settling {T : Type 0} (count w clock : ℕ) (before : List (Option (Pass T Note Origin))) (n : ℕ) (p : SessionState) (r : Result (Option Point) SettleError) (clock' : ℕ) (after : List (Option (Pass T Note Origin))) : Type 0 where
  pub turns : List Turn
  pub took : Took w clock before turns clock' after
  pub only : OnlyLooks p.tx turns
  pub told : SettledBy count n p r turns

-- why a round ended early, as a commit tells it
abbrev pub refusal_of : RoundError → SettleError
refusal_of (RoundDown m) = Unsettled m
refusal_of (RoundWorn at) = Worn at
refusal_of RoundMemory = Memory

-- an answer, as one that is there
abbrev pub settled_in : Result Point SettleError → Result (Option Point) SettleError
settled_in (Ok point) = Ok (Some point)
settled_in (Err e) = Err e

module _ {M S G : Type 0} where
  -- committed, or over where it was aborted, and gone at its home, else the request stands
  abbrev pub StandsBy : Shards M S G → Walker M S G → SessionState → ℕ → Result (Option Point) SettleError → Type 0
  StandsBy sh w p n (Ok (Some point)) = IsReady sh w p
  StandsBy sh w p n (Ok None) = IsStanding sh w p n
  StandsBy sh w p n (Err (Aborted cause)) = IsOver sh w p × IsGoneAt n w p
  StandsBy sh w p n (Err (Unsettled m)) = IsStanding sh w p n
  StandsBy sh w p n (Err (Worn at)) = IsStanding sh w p n
  StandsBy sh w p n (Err Memory) = IsStanding sh w p n
