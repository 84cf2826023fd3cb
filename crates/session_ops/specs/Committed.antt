-- What a commit tells, from its request on.
use Rattle.std.specs.Prelude.{◌≡◌, ◌⊎◌, ⊤, ℕ, true, List, [], ◌++◌, Option, Result, Ok, Err}
use Rattle.std.specs.List.{AllByRecursion}
use Rattle.clv_base.specs.declared.names.Point.{Point}
use Rattle.clv_base.specs.declared.events.Event.TheVariants.{Request}
use Rattle.clv_base.specs.declared.events.Outcome.{Outcome}
use Rattle.clv_base.specs.declared.events.Outcome.TheVariants.{Asked, Dead, Down as DownOut}
use Rattle.clv_base.specs.Sessions.{SessionState, Ended, is_lowest}
use Rattle.turn_lock.specs.declared.pass.Pass.{Pass}
use Rattle.machine_calls.specs.declared.machine.StepError.{StepError}
use Rattle.machine_calls.specs.declared.machine.StepError.TheVariants.{Memory as NoMemory, Worn as IsWorn}
use Rattle.machine_laws.specs.declared.notes.Note.{Note}
use Rattle.machine_laws.specs.declared.notes.Origin.{Origin}
use Rattle.cluster_turns.specs.declared.shards.Shards.{Shards}
use Rattle.cluster_turns.specs.declared.shards.Walker.{Walker}
use Rattle.cluster_turns.specs.CallTurns.{Turn, Took}
use Rattle.session_ops.specs.Standing.{IsTurnOf, IsActive, IsGoneAt}
use Rattle.session_ops.specs.Requested.{IsStanding, HasStamp, HasRequest}
use Rattle.session_ops.specs.Dropped.{IsEnding}
use Rattle.session_ops.specs.declared.settled_looking.SettleError.{SettleError}
use Rattle.session_ops.specs.declared.committing.Settled.{Settled}
use Rattle.session_ops.specs.declared.committing.Settled.TheVariants.{Committed, Empty}
use Rattle.session_ops.specs.declared.committing.CommitError.{CommitError}
use Rattle.session_ops.specs.declared.committing.CommitError.TheVariants.{Aborted, Down, Worn, Memory}
use Rattle.session_ops.specs.declared.committing.Next.{Next}
use Rattle.session_ops.specs.declared.committing.Next.TheVariants.{Looks, Leaves, Refuses}
use Rattle.session_ops.specs.Decided.{DropsOthers, IsLookOrDrop, DecidedBy, committed_as}

-- by what the request was answered: the commit's answer, its turns after the request, and the place, p before it. Where it was asked, it was so at this point
abbrev pub CommittedBy : ℕ → ℕ → SessionState → Point → Result Outcome StepError → Result Settled CommitError → List Turn → SessionState → Type 0
CommittedBy count n p asked (Ok Asked) r ts q = (d : Result Point SettleError) × (r ≡ committed_as asked d) × DecidedBy count n p d ts q
CommittedBy count n p asked (Ok (Dead cause)) r ts q = (r ≡ Err (Aborted cause)) × DropsOthers count p.tx p.touched n ts × (q ≡ record p { phase = Ended })
CommittedBy count n p asked (Ok DownOut) r ts q = (r ≡ Err (Down n)) × (ts ≡ []) × (q ≡ p)
CommittedBy count n p asked (Ok _) r ts q = ⊥
CommittedBy count n p asked (Err NoMemory) r ts q = (r ≡ Err Memory) × (ts ≡ []) × (q ≡ p)
CommittedBy count n p asked (Err (IsWorn at)) r ts q = (r ≡ Err (Worn at)) × (ts ≡ []) × (q ≡ p)

-- what is to be done by what the request was answered
abbrev pub next_as : ℕ → Result Outcome StepError → Next
next_as n (Ok Asked) = Looks
next_as n (Ok (Dead cause)) = Leaves cause
next_as n (Ok _) = Refuses (Down n)
next_as n (Err NoMemory) = Refuses Memory
next_as n (Err (IsWorn at)) = Refuses (Worn at)

abbrev pub FollowedBy : ℕ → ℕ → SessionState → Point → Next → Result Settled CommitError → List Turn → SessionState → Type 0
FollowedBy count n p asked Looks r ts q = (d : Result Point SettleError) × (r ≡ committed_as asked d) × DecidedBy count n p d ts q
FollowedBy count n p asked (Leaves cause) r ts q = (r ≡ Err (Aborted cause)) × DropsOthers count p.tx p.touched n ts × (q ≡ p)
FollowedBy count n p asked (Refuses e) r ts q = (r ≡ Err e) × (ts ≡ []) × (q ≡ p)

-- the turns after the request, which if it was asked was so at this point
pub record Following {T : Type 0} (count w clock : ℕ) (before : List (Option (Pass T Note Origin))) (n : ℕ) (p : SessionState) (asked : Point) (x : Next) (r : Result Settled CommitError) (clock' : ℕ)
    (after : List (Option (Pass T Note Origin))) (q : SessionState) : Type 0 where
  pub turns : List Turn
  pub took : Took w clock before turns clock' after
  pub only : AllByRecursion (IsLookOrDrop p.tx p.touched n) turns
  pub told : FollowedBy count n p asked x r turns q

-- one request, whose entry has this stamp, and what comes after it. Where it was asked, it is among the walker's entries
pub record Committing {T : Type 0} (count w clock : ℕ) (before : List (Option (Pass T Note Origin))) (n : ℕ) (p : SessionState) (stamp : ℕ) (r : Result Settled CommitError) (clock' : ℕ) (after : List (Option (Pass T Note Origin)))
    (q : SessionState) : Type 0 where
  pub answer : Result Outcome StepError
  pub asking : List Turn
  pub rest : List Turn
  pub took : Took w clock before (asking ++ rest) clock' after
  pub asked : IsTurnOf n (Request p.tx p.touched) answer asking
  pub stamped : AllByRecursion (HasStamp stamp) asking
  pub only : AllByRecursion (IsLookOrDrop p.tx p.touched n) rest
  pub requested : answer ≡ Ok Asked → HasRequest after p (record { stamp = stamp; shard = n })
  pub told : CommittedBy count n p (record { stamp = stamp; shard = n }) answer r rest q

-- the point of an acknowledged one is that of its request
abbrev pub PointsAtRequest : {T E : Type 0} → List (Option (Pass T Note Origin)) → SessionState → Result Settled E → Type 0
PointsAtRequest passes p (Ok (Committed point)) = HasRequest passes p point
PointsAtRequest passes p (Ok Empty) = ⊤
PointsAtRequest passes p (Err e) = ⊤

module _ {M S G : Type 0} where
  -- how the transaction stands then
  abbrev pub Answering : Shards M S G → Walker M S G → SessionState → ℕ → Next → Type 0
  Answering sh w p home Looks = IsStanding sh w p home
  Answering sh w p home (Leaves cause) = IsEnding sh w p × (p.phase ≡ Ended) × IsGoneAt home w p
  Answering sh w p home (Refuses e) = IsActive sh w p

  -- where nothing was touched nothing is done; else the request is made at the lowest touched shard, with this stamp
  abbrev pub CommitTold : ℕ → Walker M S G → SessionState → ℕ → Result Settled CommitError → Walker M S G → SessionState → Type 0
  CommitTold count w p stamp r v q =
      ((p.touched ≡ []) × (r ≡ Ok Empty) × (v ≡ w) × (q ≡ p))
      ⊎ ((home : ℕ) × (is_lowest home p.touched ≡ true) × Committing count w.number w.clock w.passes.items home p stamp r v.clock v.passes.items q)
