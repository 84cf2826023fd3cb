-- A session, as whoever runs a script sees it.
use Rattle.std.specs.Prelude.{ℕ, ◌==◌, Bool, true, false, cond, is_some, List, Option, Some, None, Result, Ok, Err}
use Rattle.std.specs.Map.{lookup}
use Rattle.clv_base.specs.declared.values.Value.{Value as ValueType}
use Rattle.clv_base.specs.declared.names.Birth.{Birth}
use Rattle.clv_base.specs.declared.names.Point.{Point}
use Rattle.clv_base.specs.declared.ops.Answer.{Answer}
use Rattle.clv_base.specs.declared.ops.Answer.TheVariants.{Value, Pairs, Added}
use Rattle.clv_base.specs.Sessions.{SessionState, Phase, Touching, Ended, Standing as IsStanding, Told, Refused}
use Rattle.cluster_turns.specs.declared.shards.Shards.{Shards}
use Rattle.cluster_turns.specs.declared.shards.Walker.{Walker}
use Rattle.cluster_turns.specs.declared.shards.WornClock.{WornClock}
use Rattle.cluster_turns.specs.Dates.{last_seen}
use Rattle.cluster_turns.specs.Walkers.{kept}
use Rattle.session_ops.specs.declared.operating.OpError.{OpError}
use Rattle.session_ops.specs.declared.operating.OpError.TheVariants as op
use Rattle.session_ops.specs.declared.rolling.BackError.{BackError}
use Rattle.session_ops.specs.declared.rolling.BackError.TheVariants as left
use Rattle.session_ops.specs.declared.committing.Settled.{Settled}
use Rattle.session_ops.specs.declared.committing.Settled.TheVariants.{Committed, Empty as NothingToCommit}
use Rattle.session_ops.specs.declared.committing.CommitError.{CommitError}
use Rattle.session_ops.specs.declared.committing.CommitError.TheVariants as commit
use Rattle.script_runs.specs.declared.ends.StopCause.{StopCause}
use Rattle.script_runs.specs.declared.ends.StopCause.TheVariants.{Down, Unsettled, Worn, Memory}
use Rattle.script_runs.specs.declared.ends.TryEnd.{TryEnd}
use Rattle.script_runs.specs.declared.ends.TryEnd.TheVariants.{Acknowledged, Empty, Aborted, Stopped}
use Rattle.script_runs.specs.Sessions.{session_entries}
use Rattle.script_runs.specs.Seen.{Standing, Idle, Active, Asked, Seen}

module _ {M S G : Type 0} where
  -- its walker's entries that only sessions make, the greatest stamp that its passes have seen, the point of its last request that was acknowledged, and how
  -- its last transaction stands
  abbrev pub seen_as : Shards M S G → Walker M S G → Point → Standing → Seen
  seen_as sh w asked st =
      record { splits = sh.splits; run = sh.run; walker = w.number; entries = session_entries (kept w.passes.items); clock = w.clock; latest = last_seen w.passes.items; serial = w.serial; standing = st; asked = asked }

-- the touched shards
abbrev pub touched_in : List (ℕ × ℕ) → ℕ → Bool
touched_in touched n = is_some (lookup (◌==◌ n) touched)

-- the transaction may have operations
abbrev pub is_active : SessionState → Birth → Standing
is_active p birth = Active p.tx birth p.nth (touched_in p.touched)

-- it died, and may be tried again, or not
abbrev pub unless_dead : SessionState → Birth → Bool → Standing
unless_dead p birth true = Idle (Some birth)
unless_dead p birth false = is_active p birth

-- by how far it is
abbrev pub by_phase : SessionState → Birth → Phase → Standing
by_phase p birth Touching = is_active p birth
by_phase p birth Ended = Idle (Some birth)
by_phase p birth (IsStanding home) = Asked
by_phase p birth Told = Idle None
by_phase p birth Refused = Idle (Some birth)

-- after a commit: acknowledged, or there was nothing; over; its request was not made, or it stands
abbrev pub after_commit : SessionState → Birth → Result Settled CommitError → Standing
after_commit p birth (Ok s) = Idle None
after_commit p birth (Err (commit.Aborted cause)) = Idle (Some birth)
after_commit p birth (Err (commit.Down n)) = is_active p birth
after_commit p birth (Err (commit.Unsettled n)) = Asked
after_commit p birth (Err (commit.Worn at)) = by_phase p birth p.phase
after_commit p birth (Err commit.Memory) = by_phase p birth p.phase

-- the point of the last request that was acknowledged, after a commit
abbrev pub asked_after : {E : Type 0} → Point → Result Settled E → Point
asked_after asked (Ok (Committed point)) = point
asked_after asked (Ok NothingToCommit) = asked
asked_after asked (Err e) = asked

-- after an abort, where stamps weren't wanting
abbrev pub after_abort : {A : Type 0} → Birth → Result A WornClock → Standing → Standing
after_abort birth (Ok a) en = Idle (Some birth)
after_abort birth (Err worn) en = en

-- ---- how answers end a try

abbrev pub op_end : OpError → TryEnd
op_end (op.Aborted cause) = Aborted cause
op_end (op.Down n) = Stopped (Down n)
op_end (op.Worn at) = Stopped (Worn at)
op_end op.Memory = Stopped Memory

abbrev pub value_end : Result (Option ValueType) OpError → Result Answer TryEnd
value_end (Ok value) = Ok (Value value)
value_end (Err e) = Err (op_end e)

abbrev pub added_end : Result Bool OpError → Result Answer TryEnd
added_end (Ok found) = Ok (Added found)
added_end (Err e) = Err (op_end e)

abbrev pub pairs_end : Result (List (ℕ × ValueType)) OpError → Result Answer TryEnd
pairs_end (Ok pairs) = Ok (Pairs pairs)
pairs_end (Err e) = Err (op_end e)

-- of a going back to upto, which took a number or none
abbrev pub back_end : {A : Type 0} → Bool → ℕ → Result A BackError → Result (Option ℕ) TryEnd
back_end took upto (Ok a) = Ok (cond took (Some upto) None)
back_end took upto (Err (left.Aborted cause)) = Err (Aborted cause)
back_end took upto (Err (left.Down n)) = Err (Stopped (Down n))
back_end took upto (Err (left.Worn n at)) = Err (Stopped (Worn at))

abbrev pub commit_end : Result Settled CommitError → TryEnd
commit_end (Ok (Committed point)) = Acknowledged
commit_end (Ok NothingToCommit) = Empty
commit_end (Err (commit.Aborted cause)) = Aborted cause
commit_end (Err (commit.Down n)) = Stopped (Down n)
commit_end (Err (commit.Unsettled n)) = Stopped (Unsettled n)
commit_end (Err (commit.Worn at)) = Stopped (Worn at)
commit_end (Err commit.Memory) = Stopped Memory

abbrev pub abort_end : {A : Type 0} → Result A WornClock → Result A StopCause
abort_end (Ok a) = Ok a
abort_end (Err worn) = Err (Worn worn.at)
