-- What the end of a request tells, once it stands at its home.
use Rattle.std.specs.Prelude.{◌≡◌, ◌⊎◌, ⊤, ℕ, ◌<◌, Bool, true, false, List, Option, Some, Result, Ok, Err, length}
use Rattle.std.specs.List.{AllByRecursion}
use Rattle.clv_base.specs.declared.names.TxId.{TxId}
use Rattle.clv_base.specs.declared.names.Point.{Point}
use Rattle.clv_base.specs.declared.events.Event.TheVariants.{Look, Drop}
use Rattle.clv_base.specs.declared.events.Outcome.TheVariants.{Aborted as AbortedOut}
use Rattle.clv_base.specs.Sessions.{SessionState, Standing, Told, Refused, is_of_session, after_drop}
use Rattle.turn_lock.specs.declared.pass.Pass.{Pass}
use Rattle.machine_laws.specs.declared.notes.Note.{Note}
use Rattle.machine_laws.specs.declared.notes.Origin.{Origin}
use Rattle.cluster_turns.specs.declared.shards.Shards.{Shards}
use Rattle.cluster_turns.specs.declared.shards.Walker.{Walker}
use Rattle.cluster_turns.specs.CallTurns.{Turn, Took, AnyTurn, FoundDown, FoundWorn}
use Rattle.session_ops.specs.declared.settled_looking.SettleError.{SettleError}
use Rattle.session_ops.specs.declared.settled_looking.SettleError.TheVariants.{Aborted, Unsettled, Worn, Memory}
use Rattle.session_ops.specs.Settled.{IsLook, Acknowledges, IsHeldUp}
use Rattle.session_ops.specs.Dropped.{is_to_drop, Drops, IsEnding}
use Rattle.session_ops.specs.declared.committing.Settled.{Settled}
use Rattle.session_ops.specs.declared.committing.Settled.TheVariants.{Committed}
use Rattle.session_ops.specs.declared.committing.CommitError.{CommitError}
use Rattle.session_ops.specs.declared.committing.CommitError.TheVariants.{Aborted as CommitAborted, Unsettled as CommitUnsettled, Worn as CommitWorn, Memory as CommitMemory}

-- each touched shard but the home had a drop
abbrev pub DropsOthers : ℕ → TxId → List (ℕ × ℕ) → ℕ → List Turn → Type 0
DropsOthers count tx touched home ts = (n : ℕ) → n < count → is_to_drop touched (Some home) n ≡ true → AnyTurn (λ t. (t.shard ≡ n) × (t.event ≡ Drop tx)) ts

-- all turns are drops of the other parts, and each has one
pub record Leaving {T : Type 0} (count w clock : ℕ) (before : List (Option (Pass T Note Origin))) (tx : TxId) (touched : List (ℕ × ℕ)) (home clock' : ℕ) (after : List (Option (Pass T Note Origin))) : Type 0 where
  pub turns : List Turn
  pub took : Took w clock before turns clock' after
  pub only : AllByRecursion (Drops tx touched (Some home)) turns
  pub each : DropsOthers count tx touched home turns

module _ {M S G : Type 0} where
  -- a transaction that is over, if it is
  abbrev pub IsLeftOver : Bool → Shards M S G → Walker M S G → SessionState → Type 0
  IsLeftOver true sh w p = IsEnding sh w p × (after_drop p.phase ≡ p.phase)
  IsLeftOver false sh w p = ⊤

  -- its other parts are dropped then, else nothing is done
  abbrev pub LeavesIf : Bool → Shards M S G → Walker M S G → SessionState → ℕ → Walker M S G → SessionState → Type 0
  LeavesIf true sh w p home v q = Leaving (length sh.locks.items) w.number w.clock w.passes.items p.tx p.touched home v.clock v.passes.items × (q ≡ p) × IsEnding sh v q
  LeavesIf false sh w p home v q = (v ≡ w) × (q ≡ p)

abbrev pub is_aborted : Result Point SettleError → Bool
is_aborted (Ok point) = false
is_aborted (Err (Aborted cause)) = true
is_aborted (Err (Unsettled n)) = false
is_aborted (Err (Worn at)) = false
is_aborted (Err Memory) = false

-- of a session's turns there are only looks at it, and drops of its other parts
abbrev pub IsLookOrDrop : TxId → List (ℕ × ℕ) → ℕ → Turn → Type 0
IsLookOrDrop tx touched home t = (is_of_session t.event ≡ false) ⊎ ((t.event ≡ Look tx) ⊎ Drops tx touched (Some home) t)

-- what an answer tells of the turns, and of the place
abbrev pub DecidedBy : ℕ → ℕ → SessionState → Result Point SettleError → List Turn → SessionState → Type 0
DecidedBy count n p (Ok point) ts q = AnyTurn (Acknowledges n p.tx point) ts × (q ≡ record p { phase = Told })
DecidedBy count n p (Err (Aborted cause)) ts q = AnyTurn (IsLook n p.tx (AbortedOut cause)) ts × DropsOthers count p.tx p.touched n ts × (q ≡ record p { phase = Refused })
DecidedBy count n p (Err (Unsettled m)) ts q = FoundDown m ts × ((m ≡ n) ⊎ IsHeldUp count n p.tx p.touched m ts) × (q ≡ record p { phase = Standing n })
DecidedBy count n p (Err (Worn at)) ts q = FoundWorn at ts × (q ≡ record p { phase = Standing n })
DecidedBy count n p (Err Memory) ts q = q ≡ record p { phase = Standing n }

pub record Deciding {T : Type 0} (count w clock : ℕ) (before : List (Option (Pass T Note Origin))) (n : ℕ) (p : SessionState) (r : Result Point SettleError) (clock' : ℕ) (after : List (Option (Pass T Note Origin)))
    (q : SessionState) : Type 0 where
  pub turns : List Turn
  pub took : Took w clock before turns clock' after
  pub only : AllByRecursion (IsLookOrDrop p.tx p.touched n) turns
  pub told : DecidedBy count n p r turns q

-- a decision, as the commit of a request at this point tells it
abbrev pub committed_as : Point → Result Point SettleError → Result Settled CommitError
committed_as asked (Ok look) = Ok (Committed asked)
committed_as asked (Err (Aborted cause)) = Err (CommitAborted cause)
committed_as asked (Err (Unsettled n)) = Err (CommitUnsettled n)
committed_as asked (Err (Worn at)) = Err (CommitWorn at)
committed_as asked (Err Memory) = Err CommitMemory
