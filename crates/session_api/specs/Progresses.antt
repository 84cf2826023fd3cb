-- How a session's last transaction stands after an answer, and which calls that refuses.
use Rattle.std.specs.Prelude.{ℕ, ◌^◌, Bool, true, false, Option, Some, None, Result, Ok, Err}
use Rattle.clv_base.specs.declared.names.TxId.{TxId}
use Rattle.clv_base.specs.declared.values.Value.{Value as ValueType}
use Rattle.clv_base.specs.declared.ops.Answer.{Answer}
use Rattle.clv_base.specs.declared.ops.Answer.TheVariants.{Value, Pairs, Added}
use Rattle.clv_base.specs.declared.names.Point.{Point}
use Rattle.clv_base.specs.Sessions.{SessionState, Phase, Touching, Ended as HasEnded, Standing, Told, Refused}
use Rattle.cluster_turns.specs.declared.shards.WornClock.{WornClock}
use Rattle.session_ops.specs.declared.operating.OpError.{OpError as Failure}
use Rattle.session_ops.specs.declared.operating.OpError.TheVariants as failed
use Rattle.session_ops.specs.declared.rolling.BackError.{BackError}
use Rattle.session_ops.specs.declared.rolling.BackError.TheVariants as left
use Rattle.session_ops.specs.declared.settled_looking.SettleError.{SettleError}
use Rattle.session_ops.specs.declared.settled_looking.SettleError.TheVariants as settle
use Rattle.session_ops.specs.declared.committing.Settled.{Settled}
use Rattle.session_ops.specs.declared.committing.Settled.TheVariants.{Committed, Empty}
use Rattle.session_ops.specs.declared.committing.CommitError.{CommitError as CommitFailure}
use Rattle.session_ops.specs.declared.committing.CommitError.TheVariants as unmade
use Rattle.session_api.specs.declared.progress.Progress.{Progress}
use Rattle.session_api.specs.declared.progress.Progress.TheVariants.{Idle, Active, Worn, Undone, Asked, Ended}
use Rattle.session_api.specs.declared.retrying.RetryError.{RetryError}
use Rattle.session_api.specs.declared.retrying.RetryError.TheVariants as retry
use Rattle.session_api.specs.declared.operating.OpError.{OpError}
use Rattle.session_api.specs.declared.operating.OpError.TheVariants as op
use Rattle.session_api.specs.declared.savepoints.RollError.{RollError}
use Rattle.session_api.specs.declared.savepoints.RollError.TheVariants as roll
use Rattle.session_api.specs.declared.ending.CommitError.{CommitError}
use Rattle.session_api.specs.declared.ending.CommitError.TheVariants as commit
use Rattle.session_api.specs.declared.ending.AbortError.{AbortError}
use Rattle.session_api.specs.declared.ending.AbortError.TheVariants as abort

-- the active transaction
abbrev pub active_tx : Progress → Option TxId
active_tx Idle = None
active_tx (Active p) = Some p.tx
active_tx (Worn p) = Some p.tx
active_tx (Undone p n upto) = Some p.tx
active_tx (Asked p home stamp) = None
active_tx (Ended p) = None

-- how many acts it had
abbrev pub acts_in : Progress → Option ℕ
acts_in Idle = None
acts_in (Active p) = Some p.nth
acts_in (Worn p) = Some p.nth
acts_in (Undone p n upto) = Some p.nth
acts_in (Asked p home stamp) = None
acts_in (Ended p) = None

-- ---- other tries

-- one is active, or the last one didn't end by an abort
abbrev pub retry_refusal : Progress → RetryError
retry_refusal Idle = retry.NoRetry
retry_refusal (Active p) = retry.Active p.tx
retry_refusal (Worn p) = retry.Active p.tx
retry_refusal (Undone p n upto) = retry.Active p.tx
retry_refusal (Asked p home stamp) = retry.NoRetry
retry_refusal (Ended p) = retry.NoRetry

-- ---- operations

abbrev pub failure_told : Failure → OpError
failure_told (failed.Aborted cause) = op.Aborted cause
failure_told (failed.Down n) = op.Down n
failure_told (failed.Worn at) = op.Worn at
failure_told failed.Memory = op.Memory

abbrev pub answer_told : {A : Type 0} → Result A Failure → Result A OpError
answer_told (Ok a) = Ok a
answer_told (Err e) = Err (failure_told e)

-- what is told of an answer at a key: the value before, or whether there was a number
abbrev pub value_given : Result Answer OpError → Result (Option ValueType) OpError
value_given (Ok (Value value)) = Ok value
value_given (Ok (Pairs pairs)) = Ok None
value_given (Ok (Added found)) = Ok None
value_given (Err e) = Err e

abbrev pub added_given : Result Answer OpError → Result Bool OpError
added_given (Ok (Added found)) = Ok found
added_given (Ok (Value value)) = Ok false
added_given (Ok (Pairs pairs)) = Ok false
added_given (Err e) = Err e

-- without a transaction that may have operations
abbrev pub refusal_of : Progress → OpError
refusal_of Idle = op.NoTx
refusal_of (Active p) = op.NoTx
refusal_of (Worn p) = op.Worn (2 ^ 48)
refusal_of (Undone p n upto) = op.Down n
refusal_of (Asked p home stamp) = op.NoTx
refusal_of (Ended p) = op.NoTx

-- after an operation, of which the transaction died or didn't
abbrev pub after_op : SessionState → Bool → Progress
after_op p true = Ended p
after_op p false = Active p

-- ---- goings back

abbrev pub back_told : Result (Unit {0}) BackError → Result (Unit {0}) RollError
back_told (Ok a) = Ok a
back_told (Err (left.Aborted cause)) = Err (roll.Aborted cause)
back_told (Err (left.Down n)) = Err (roll.Down n)
back_told (Err (left.Worn n at)) = Err (roll.Worn at)

-- after one to upto: done, over, left undone on a shard that was down, or for want of stamps
abbrev pub progress_back : {A : Type 0} → SessionState → ℕ → Result A BackError → Progress
progress_back p upto (Ok a) = Active p
progress_back p upto (Err (left.Aborted cause)) = Ended p
progress_back p upto (Err (left.Down n)) = Undone p n upto
progress_back p upto (Err (left.Worn n at)) = Worn p

-- ---- commits

-- behind a going back that was left undone
abbrev pub commit_undone : BackError → CommitError
commit_undone (left.Aborted cause) = commit.Aborted cause
commit_undone (left.Down n) = commit.Down n
commit_undone (left.Worn n at) = commit.Worn at

abbrev pub commit_told : Result Settled CommitFailure → Result Settled CommitError
commit_told (Ok s) = Ok s
commit_told (Err (unmade.Aborted cause)) = Err (commit.Aborted cause)
commit_told (Err (unmade.Down n)) = Err (commit.Down n)
commit_told (Err (unmade.Unsettled n)) = Err (commit.Unsettled n)
commit_told (Err (unmade.Worn at)) = Err (commit.Worn at)
commit_told (Err unmade.Memory) = Err commit.Memory

-- of a request at this point
abbrev pub settle_told : Point → Result Point SettleError → Result Settled CommitError
settle_told asked (Ok look) = Ok (Committed asked)
settle_told asked (Err (settle.Aborted cause)) = Err (commit.Aborted cause)
settle_told asked (Err (settle.Unsettled n)) = Err (commit.Unsettled n)
settle_told asked (Err (settle.Worn at)) = Err (commit.Worn at)
settle_told asked (Err settle.Memory) = Err commit.Memory

-- without a transaction to commit
abbrev pub commit_refusal : Progress → CommitError
commit_refusal Idle = commit.NoTx
commit_refusal (Active p) = commit.NoTx
commit_refusal (Worn p) = commit.Worn (2 ^ 48)
commit_refusal (Undone p n upto) = commit.NoTx
commit_refusal (Asked p home stamp) = commit.NoTx
commit_refusal (Ended p) = commit.NoTx

abbrev pub is_nothing : Result Settled CommitFailure → Bool
is_nothing (Ok (Committed point)) = false
is_nothing (Ok Empty) = true
is_nothing (Err e) = false

-- where the transaction is so far; its request, if one stands, has this stamp
abbrev pub after_commit : SessionState → ℕ → Phase → Progress
after_commit p stamp Touching = Active p
after_commit p stamp (Standing home) = Asked p home stamp
after_commit p stamp Told = Idle
after_commit p stamp HasEnded = Ended p
after_commit p stamp Refused = Ended p

abbrev pub progress_committed : SessionState → ℕ → Bool → Progress
progress_committed p stamp true = Idle
progress_committed p stamp false = after_commit p stamp p.phase

-- ---- aborts

abbrev pub abort_told : {A : Type 0} → Result A WornClock → Result A AbortError
abort_told (Ok a) = Ok a
abort_told (Err worn) = Err (abort.Worn worn.at)

abbrev pub progress_aborted : {A : Type 0} → SessionState → Result A WornClock → Progress
progress_aborted p (Ok a) = Ended p
progress_aborted p (Err worn) = Worn p
