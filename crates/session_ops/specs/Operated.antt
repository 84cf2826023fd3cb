-- What an operation on one shard tells, with its rounds.
use Rattle.std.specs.Prelude.{◌≡◌, ◌⊎◌, ⊤, ℕ, false, List, Option, Some, None, Result, Ok, Err}
use Rattle.std.specs.List.{AllByRecursion}
use Rattle.clv_base.specs.declared.names.TxId.{TxId}
use Rattle.clv_base.specs.declared.causes.AbortCause.{AbortCause}
use Rattle.clv_base.specs.declared.ops.Op.{Op}
use Rattle.clv_base.specs.declared.ops.Answer.{Answer}
use Rattle.clv_base.specs.declared.events.Event.{Event}
use Rattle.clv_base.specs.declared.events.Outcome.{Outcome}
use Rattle.clv_base.specs.declared.events.Outcome.TheVariants.{Answered, Dead, Wait, Crowded}
use Rattle.machine_calls.specs.declared.machine.StepError.{StepError}
use Rattle.machine_calls.specs.declared.machine.StepError.TheVariants.{Memory as NoMemory, Worn as IsWorn}
use Rattle.clv_base.specs.Sessions.{SessionState, is_of_session}
use Rattle.turn_lock.specs.declared.pass.Pass.{Pass}
use Rattle.machine_laws.specs.declared.notes.Note.{Note}
use Rattle.machine_laws.specs.declared.notes.Origin.{Origin}
use Rattle.cluster_turns.specs.declared.shards.Shards.{Shards}
use Rattle.cluster_turns.specs.declared.shards.Walker.{Walker}
use Rattle.cluster_turns.specs.CallTurns.{Turn, Took, AnyTurn, FoundDown, FoundWorn}
use Rattle.session_ops.specs.declared.parts.RoundError.{RoundError}
use Rattle.session_ops.specs.declared.parts.RoundError.TheVariants.{Down as RoundDown, Worn as RoundWorn, Memory as RoundMemory}
use Rattle.session_ops.specs.declared.operating.OpError.{OpError}
use Rattle.session_ops.specs.declared.operating.OpError.TheVariants.{Aborted, Down, Worn, Memory}
use Rattle.session_ops.specs.Standing.{place_after, IsActive, IsOver, IsGoneAt}

-- what one try answers: none where it has to wait
abbrev pub tried : ℕ → Result Outcome StepError → Result (Option Answer) OpError
tried n (Ok (Answered answer epoch)) = Ok (Some answer)
tried n (Ok (Dead cause)) = Err (Aborted cause)
tried n (Ok (Wait younger)) = Ok None
tried n (Ok (Crowded count)) = Ok None
tried n (Ok _) = Err (Down n)
tried n (Err NoMemory) = Err Memory
tried n (Err (IsWorn at)) = Err (Worn at)

-- a turn was answered this, on this shard, by this event; or it waits there
abbrev pub IsAnswered : ℕ → Event → Answer → Turn → Type 0
IsAnswered n e answer t = (t.shard ≡ n) × (t.event ≡ e) × ((epoch : ℕ) × (t.answer ≡ Ok (Answered answer epoch)))

abbrev pub Died : ℕ → Event → AbortCause → Turn → Type 0
Died n e cause t = (t.shard ≡ n) × (t.event ≡ e) × (t.answer ≡ Ok (Dead cause))

abbrev pub Waits : ℕ → Event → Turn → Type 0
Waits n e t = (t.shard ≡ n) × (t.event ≡ e) × (((younger : TxId) × (t.answer ≡ Ok (Wait younger))) ⊎ ((count : ℕ) × (t.answer ≡ Ok (Crowded count))))

-- what an answer tells of the turns of its call; none yet tells that it waits
abbrev pub ToldBy : ℕ → Event → Result (Option Answer) OpError → List Turn → Type 0
ToldBy n e (Ok (Some answer)) ts = AnyTurn (IsAnswered n e answer) ts
ToldBy n e (Ok None) ts = AnyTurn (Waits n e) ts
ToldBy n e (Err (Aborted cause)) ts = AnyTurn (Died n e cause) ts
ToldBy n e (Err (Down m)) ts = FoundDown m ts × ((m ≡ n) ⊎ AnyTurn (Waits n e) ts)
ToldBy n e (Err (Worn at)) ts = FoundWorn at ts
ToldBy n e (Err Memory) ts = ⊤

-- and of the place
abbrev pub PlacedBy : ℕ → ℕ → Op → SessionState → Result (Option Answer) OpError → SessionState → Type 0
PlacedBy n nth op p (Ok (Some answer)) q = (epoch : ℕ) × (q ≡ place_after n nth op p (Ok (Answered answer epoch)))
PlacedBy n nth op p (Ok None) q = q ≡ p
PlacedBy n nth op p (Err (Aborted cause)) q = q ≡ place_after n nth op p (Ok (Dead cause))
PlacedBy n nth op p (Err (Down m)) q = q ≡ p
PlacedBy n nth op p (Err (Worn at)) q = q ≡ p
PlacedBy n nth op p (Err Memory) q = q ≡ p

-- of a session's turns there are only those of this event
abbrev pub OnlyOf : Event → List Turn → Type 0
OnlyOf e ts = AllByRecursion (λ t. (is_of_session t.event ≡ false) ⊎ (t.event ≡ e)) ts

pub record Operated {T : Type 0} (w clock : ℕ) (before : List (Option (Pass T Note Origin))) (n : ℕ) (e : Event) (r : Result (Option Answer) OpError) (clock' : ℕ) (after : List (Option (Pass T Note Origin))) : Type 0 where
  pub turns : List Turn
  pub took : Took w clock before turns clock' after
  pub only : OnlyOf e turns
  pub told : ToldBy n e r turns

-- why a round ended early, as an operation tells it
abbrev pub refusal_of : RoundError → OpError
refusal_of (RoundDown m) = Down m
refusal_of (RoundWorn at) = Worn at
refusal_of RoundMemory = Memory

-- an answer, as one that is there
abbrev pub answered_in : Result Answer OpError → Result (Option Answer) OpError
answered_in (Ok answer) = Ok (Some answer)
answered_in (Err e) = Err e

module _ {M S G : Type 0} where
  -- over, and gone on this shard, where the transaction died, else active
  abbrev pub StandsBy : ℕ → Shards M S G → Walker M S G → SessionState → Result (Option Answer) OpError → Type 0
  StandsBy n sh w p (Err (Aborted cause)) = IsOver sh w p × IsGoneAt n w p
  StandsBy n sh w p (Err (Down m)) = IsActive sh w p
  StandsBy n sh w p (Err (Worn at)) = IsActive sh w p
  StandsBy n sh w p (Err Memory) = IsActive sh w p
  StandsBy n sh w p (Ok answer) = IsActive sh w p
