-- A session, and what its calls tell.
use Rattle.std.specs.Prelude.{◌≡◌, ℕ, ◌<◌, ◌≤◌, ◌+◌, ◌-◌, ◌^◌, Bool, true, false, nat_lt, length, List, Option, Some, None, Result, Ok, Err}
use Rattle.clv_base.specs.declared.values.Value.{Value as ValueType}
use Rattle.clv_base.specs.declared.names.TxId.{TxId}
use Rattle.clv_base.specs.declared.names.Birth.{Birth}
use Rattle.clv_base.specs.declared.names.Point.{Point}
use Rattle.clv_base.specs.declared.ops.Op.{Op}
use Rattle.clv_base.specs.declared.ops.Answer.{Answer}
use Rattle.clv_base.specs.Sessions.{SessionState}
use Rattle.cluster_turns.specs.declared.shards.Shards.{Shards}
use Rattle.cluster_turns.specs.declared.shards.Walker.{Walker}
use Rattle.cluster_turns.specs.declared.shards.WornClock.{WornClock}
use Rattle.cluster_turns.specs.Walkers.{IsSameWalker}
use Rattle.cluster_closing.specs.Landed.{HasLanded}
use Rattle.session_ops.specs.declared.operating.OpError.{OpError as Failure}
use Rattle.session_ops.specs.Standing.{IsActive}
use Rattle.session_ops.specs.Beginnings.{IsIdle, Begun}
use Rattle.session_ops.specs.Requested.{IsStanding, HasRequest}
use Rattle.session_ops.specs.Dropped.{Dropping, IsLeft}
use Rattle.session_ops.specs.declared.parts.RoundError.{RoundError}
use Rattle.session_ops.specs.declared.parts.RoundError.TheVariants as round
use Rattle.session_ops.specs.declared.rolling.BackError.{BackError}
use Rattle.session_ops.specs.declared.settled_looking.SettleError.{SettleError}
use Rattle.session_ops.specs.Retried.{IsRetriable, Retried}
use Rattle.session_ops.specs.Parts.{PointTold, StandsUnless, has_died}
use Rattle.session_ops.specs.Undone.{IsUndone}
use Rattle.session_ops.specs.Scanned.{Scanning, IsSameTx}
use Rattle.session_ops.specs.Stepped.{PartsTold}
use Rattle.session_ops.specs.declared.committing.Settled.{Settled}
use Rattle.session_ops.specs.declared.committing.CommitError.{CommitError as CommitFailure}
use Rattle.session_ops.specs.Standings.{StandsAs, IsUnasked}
use Rattle.session_ops.specs.Decided.{Deciding}
use Rattle.session_ops.specs.Committed.{CommitTold, PointsAtRequest}
use Rattle.session_api.specs.declared.progress.Progress.{Progress}
use Rattle.session_api.specs.declared.progress.Progress.TheVariants.{Idle, Active, Worn, Undone, Asked, Ended}
use Rattle.session_api.specs.declared.beginning.BeginError.{BeginError}
use Rattle.session_api.specs.declared.beginning.BeginError.TheVariants as begin
use Rattle.session_api.specs.declared.retrying.RetryError.{RetryError}
use Rattle.session_api.specs.declared.retrying.RetryError.TheVariants as retry
use Rattle.session_api.specs.declared.operating.OpError.{OpError}
use Rattle.session_api.specs.declared.operating.OpError.TheVariants.{BadRange}
use Rattle.session_api.specs.declared.ending.CommitError.{CommitError}
use Rattle.session_api.specs.declared.ending.AbortError.{AbortError}
use Rattle.session_api.specs.declared.ending.AbortError.TheVariants.{NoTx}
use Rattle.session_api.specs.Grounds.{WasDown}
use Rattle.session_api.specs.GoingBack.{AgainMade}
use Rattle.session_api.specs.Progresses.{active_tx, retry_refusal, answer_told, refusal_of, after_op, commit_told, commit_undone, settle_told, commit_refusal, is_nothing, after_commit, progress_committed, abort_told, progress_aborted}

-- what a round answers that found this shard down, if any
abbrev pub found_in : Option ℕ → Result Unit RoundError
found_in None = Ok tt
found_in (Some n) = Err (round.Down n)

module _ {M S G : Type 0} where
  -- how its last transaction stands
  abbrev pub StandsIn : Shards M S G → Walker M S G → Progress → Type 0
  StandsIn sh w Idle = IsIdle sh w
  StandsIn sh w (Active p) = IsActive sh w p
  StandsIn sh w (Worn p) = IsUnasked sh w p × (2 ^ 48 - 1 ≤ w.clock)
  StandsIn sh w (Undone p n upto) = IsActive sh w p × IsUndone sh w p n upto × WasDown n w.passes.items
  StandsIn sh w (Asked p home stamp) = IsStanding sh w p home × HasRequest w.passes.items p (record { stamp = stamp; shard = home })
  StandsIn sh w (Ended p) = IsRetriable sh w p

  -- and the walker has the gate of no shard
  pub record IsSession (sh : Shards M S G) (w : Walker M S G) (s : Progress) : Type 0 where
    pub stands : StandsIn sh w s
    pub landed : HasLanded w.number w.passes.items

  -- ---- beginnings

  -- where none is active
  abbrev pub BegunNext : Shards M S G → Walker M S G → Progress → Result TxId BeginError → Walker M S G → Progress → Type 0
  BegunNext sh w s (Ok tx) v t = (w.clock < 2 ^ 48 - 1) × ((p : SessionState) × Begun sh w v p × (tx ≡ p.tx) × (t ≡ Active p))
  BegunNext sh w s (Err (begin.Worn at)) v t = (at ≡ 2 ^ 48) × (2 ^ 48 - 1 ≤ w.clock) × (v ≡ w) × (t ≡ s)
  BegunNext sh w s (Err (begin.Active tx)) v t = ⊥

  abbrev BegunBeside : Option TxId → Shards M S G → Walker M S G → Progress → Result TxId BeginError → Walker M S G → Progress → Type 0
  BegunBeside (Some tx) sh w s r v t = (r ≡ Err (begin.Active tx)) × (v ≡ w) × (t ≡ s)
  BegunBeside None sh w s r v t = BegunNext sh w s r v t

  abbrev pub BeginCalled : Shards M S G → Walker M S G → Progress → Result TxId BeginError → Walker M S G → Progress → Type 0
  BeginCalled sh w s r v t = BegunBeside (active_tx s) sh w s r v t

  -- ---- other tries

  -- of the last transaction, which ended by an abort
  abbrev pub RetriedNext : Shards M S G → Walker M S G → SessionState → Result TxId RetryError → Walker M S G → Progress → Type 0
  RetriedNext sh w last (Ok tx) v t = (w.clock < 2 ^ 48 - 1) × ((p : SessionState) × Retried sh w v last p × (tx ≡ p.tx) × (t ≡ Active p))
  RetriedNext sh w last (Err (retry.Worn at)) v t = (at ≡ 2 ^ 48) × (2 ^ 48 - 1 ≤ w.clock) × (v ≡ w) × (t ≡ Ended last)
  RetriedNext sh w last (Err (retry.Active tx)) v t = ⊥
  RetriedNext sh w last (Err retry.NoRetry) v t = ⊥

  abbrev pub RetryRefused : Walker M S G → Progress → Result TxId RetryError → Walker M S G → Progress → Type 0
  RetryRefused w s r v t = (r ≡ Err (retry_refusal s)) × (v ≡ w) × (t ≡ s)

  abbrev pub RetryCalled : Shards M S G → Walker M S G → Progress → Result TxId RetryError → Walker M S G → Progress → Type 0
  RetryCalled sh w (Ended p) r v t = RetriedNext sh w p r v t
  RetryCalled sh w Idle r v t = RetryRefused w Idle r v t
  RetryCalled sh w (Active p) r v t = RetryRefused w (Active p) r v t
  RetryCalled sh w (Worn p) r v t = RetryRefused w (Worn p) r v t
  RetryCalled sh w (Undone p n upto) r v t = RetryRefused w (Undone p n upto) r v t
  RetryCalled sh w (Asked p home stamp) r v t = RetryRefused w (Asked p home stamp) r v t

  -- ---- operations

  -- refused, and all is as before
  abbrev pub OpRefused : {A : Type 0} → Walker M S G → Progress → Result A OpError → Walker M S G → Progress → Type 0
  OpRefused w s r v t = (r ≡ Err (refusal_of s)) × (v ≡ w) × (t ≡ s)

  -- one operation at a key, of the active transaction p: the walker keeps its number and its serial, and the place after it stands as it tells
  pub record PointMade {A : Type 0} (tells : Result Answer Failure → Result A Failure) (sh : Shards M S G) (w : Walker M S G) (p : SessionState) (op : Op) (key : ℕ) (r : Result A OpError) (v : Walker M S G) (t : Progress) : Type 0 where
    pub answer : Result A Failure
    pub place : SessionState
    pub told : PointTold tells sh w p op key answer v place
    pub walker : IsSameWalker w v
    pub stands : StandsUnless (has_died answer) sh v place
    pub is : r ≡ answer_told answer
    pub then : t ≡ after_op place (has_died answer)

  abbrev pub PointCalled : {A : Type 0} → (Result Answer Failure → Result A Failure) → Shards M S G → Walker M S G → Progress → Op → ℕ → Result A OpError → Walker M S G → Progress → Type 0
  PointCalled tells sh w (Active p) op key r v t = PointMade tells sh w p op key r v t
  PointCalled tells sh w Idle op key r v t = OpRefused w Idle r v t
  PointCalled tells sh w (Worn p) op key r v t = OpRefused w (Worn p) r v t
  PointCalled tells sh w (Undone p n upto) op key r v t = OpRefused w (Undone p n upto) r v t
  PointCalled tells sh w (Asked p home stamp) op key r v t = OpRefused w (Asked p home stamp) r v t
  PointCalled tells sh w (Ended p) op key r v t = OpRefused w (Ended p) r v t

  -- a scan of the active transaction p
  pub record ScanMade (sh : Shards M S G) (w : Walker M S G) (p : SessionState) (lo hi : ℕ) (r : Result (List (ℕ × ValueType)) OpError) (v : Walker M S G) (t : Progress) : Type 0 where
    pub answer : Result (List (ℕ × ValueType)) Failure
    pub place : SessionState
    pub turns :
        (birth : Birth) → p.birth ≡ Some birth
        → Scanning sh.splits (length sh.locks.items) w.number w.clock w.passes.items (record { tx = p.tx; birth = birth; nth = p.nth + 1; lo = lo; hi = hi }) place.touched answer v.clock v.passes.items
    pub parts : (birth : Birth) → p.birth ≡ Some birth → PartsTold sh birth (p.nth + 1) lo hi w p answer v place
    pub same : IsSameTx p place
    pub walker : IsSameWalker w v
    pub stands : StandsUnless (has_died answer) sh v place
    pub is : r ≡ answer_told answer
    pub then : t ≡ after_op place (has_died answer)

  abbrev pub RangeCalled : Shards M S G → Walker M S G → Progress → ℕ → ℕ → Result (List (ℕ × ValueType)) OpError → Walker M S G → Progress → Type 0
  RangeCalled sh w (Active p) lo hi r v t = ScanMade sh w p lo hi r v t
  RangeCalled sh w Idle lo hi r v t = OpRefused w Idle r v t
  RangeCalled sh w (Worn p) lo hi r v t = OpRefused w (Worn p) r v t
  RangeCalled sh w (Undone p n upto) lo hi r v t = OpRefused w (Undone p n upto) r v t
  RangeCalled sh w (Asked p home stamp) lo hi r v t = OpRefused w (Asked p home stamp) r v t
  RangeCalled sh w (Ended p) lo hi r v t = OpRefused w (Ended p) r v t

  -- where one is active and the bounds fall, the range is bad
  abbrev pub RangeBeside : Option TxId → Bool → Shards M S G → Walker M S G → Progress → ℕ → ℕ → Result (List (ℕ × ValueType)) OpError → Walker M S G → Progress → Type 0
  RangeBeside (Some tx) true sh w s lo hi r v t = (r ≡ Err (BadRange lo hi)) × (v ≡ w) × (t ≡ s)
  RangeBeside (Some tx) false sh w s lo hi r v t = RangeCalled sh w s lo hi r v t
  RangeBeside None falls sh w s lo hi r v t = RangeCalled sh w s lo hi r v t

  abbrev pub ScanCalled : Shards M S G → Walker M S G → Progress → ℕ → ℕ → Result (List (ℕ × ValueType)) OpError → Walker M S G → Progress → Type 0
  ScanCalled sh w s lo hi r v t = RangeBeside (active_tx s) (nat_lt hi lo) sh w s lo hi r v t

  -- ---- commits

  -- of the active transaction p
  pub record CommitMade (sh : Shards M S G) (w : Walker M S G) (p : SessionState) (r : Result Settled CommitError) (v : Walker M S G) (t : Progress) : Type 0 where
    pub answer : Result Settled CommitFailure
    pub place : SessionState
    pub stamp : ℕ
    pub told : CommitTold (length sh.locks.items) w p stamp answer v place
    pub walker : IsSameWalker w v
    pub stands : StandsAs sh v place
    pub is : r ≡ commit_told answer
    pub then : t ≡ progress_committed place stamp (is_nothing answer)
    pub point : PointsAtRequest v.passes.items p r

  -- of p, whose request stands at this home, with this stamp
  pub record LooksMade (sh : Shards M S G) (w : Walker M S G) (p : SessionState) (home stamp : ℕ) (r : Result Settled CommitError) (v : Walker M S G) (t : Progress) : Type 0 where
    pub answer : Result Point SettleError
    pub place : SessionState
    pub turns : Deciding (length sh.locks.items) w.number w.clock w.passes.items home p answer v.clock v.passes.items place
    pub walker : IsSameWalker w v
    pub stands : StandsAs sh v place
    pub is : r ≡ settle_told (record { stamp = stamp; shard = home }) answer
    pub then : t ≡ after_commit place stamp place.phase
    pub point : PointsAtRequest v.passes.items p r

  -- of p, whose going back to upto, left undone on shard n, is made once more there
  pub record CommitUndone (sh : Shards M S G) (w : Walker M S G) (p : SessionState) (n upto : ℕ) (r : Result Settled CommitError) (v : Walker M S G) (t : Progress) : Type 0 where
    pub error : BackError
    pub made : AgainMade sh w p n upto error v t
    pub is : r ≡ Err (commit_undone error)

  abbrev pub CommitRefused : Walker M S G → Progress → Result Settled CommitError → Walker M S G → Progress → Type 0
  CommitRefused w s r v t = (r ≡ Err (commit_refusal s)) × (v ≡ w) × (t ≡ s)

  abbrev pub CommitCalled : Shards M S G → Walker M S G → Progress → Result Settled CommitError → Walker M S G → Progress → Type 0
  CommitCalled sh w (Active p) r v t = CommitMade sh w p r v t
  CommitCalled sh w (Asked p home stamp) r v t = LooksMade sh w p home stamp r v t
  CommitCalled sh w Idle r v t = CommitRefused w Idle r v t
  CommitCalled sh w (Worn p) r v t = CommitRefused w (Worn p) r v t
  CommitCalled sh w (Undone p n upto) r v t = CommitUndone sh w p n upto r v t
  CommitCalled sh w (Ended p) r v t = CommitRefused w (Ended p) r v t

  -- ---- aborts

  -- of the active transaction p
  pub record AbortMade {A : Type 0} (sh : Shards M S G) (w : Walker M S G) (p : SessionState) (r : Result A AbortError) (v : Walker M S G) (t : Progress) : Type 0 where
    pub answer : Result A WornClock
    pub place : SessionState
    pub drops : Dropping w.number w.clock w.passes.items p.tx p.touched None 0 (length sh.locks.items) answer v.clock v.passes.items
    pub left : IsLeft p place
    pub walker : IsSameWalker w v
    pub is : r ≡ abort_told answer
    pub then : t ≡ progress_aborted place answer

  abbrev pub AbortRefused : {A : Type 0} → Walker M S G → Progress → Result A AbortError → Walker M S G → Progress → Type 0
  AbortRefused w s r v t = (r ≡ Err NoTx) × (v ≡ w) × (t ≡ s)

  abbrev pub AbortCalled : {A : Type 0} → Shards M S G → Walker M S G → Progress → Result A AbortError → Walker M S G → Progress → Type 0
  AbortCalled sh w (Active p) r v t = AbortMade sh w p r v t
  AbortCalled sh w (Worn p) r v t = AbortMade sh w p r v t
  AbortCalled sh w (Undone p n upto) r v t = AbortMade sh w p r v t
  AbortCalled sh w Idle r v t = AbortRefused w Idle r v t
  AbortCalled sh w (Asked p home stamp) r v t = AbortRefused w (Asked p home stamp) r v t
  AbortCalled sh w (Ended p) r v t = AbortRefused w (Ended p) r v t
