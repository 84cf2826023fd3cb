-- What the answers of a session's calls tell of its entries.
use Rattle.std.specs.Prelude.{◌≡◌, ℕ, ◌+◌, ◌^◌, ◌<◌, ◌≤◌, IsTrue, List, length, Option, Some, None, Result, Bool}
use Rattle.clv_base.specs.declared.values.Value.{Value as ValueType}
use Rattle.clv_base.specs.Shards.{are_splits}
use Rattle.session_ops.specs.Stepped.{PartsTold}
use Rattle.clv_base.specs.declared.names.Birth.{Birth}
use Rattle.clv_base.specs.declared.names.Point.{Point}
use Rattle.clv_base.specs.declared.ops.Op.{Op}
use Rattle.clv_base.specs.declared.ops.Op.TheVariants.{Get, Put, Del, Scan, Add}
use Rattle.clv_base.specs.Sessions.{SessionState}
use Rattle.cluster_turns.specs.declared.shards.Shards.{Shards}
use Rattle.cluster_turns.specs.declared.shards.Walker.{Walker}
use Rattle.cluster_turns.specs.declared.shards.WornClock.{WornClock}
use Rattle.cluster_turns.specs.Walkers.{IsSameWalker}
use Rattle.session_ops.specs.declared.operating.OpError.{OpError}
use Rattle.session_ops.specs.Standing.{IsActive}
use Rattle.session_ops.specs.Beginnings.{Begun}
use Rattle.session_ops.specs.Retried.{Retried}
use Rattle.session_ops.specs.Parts.{PointTold, StandsUnless, has_died, value_in, added_in}
use Rattle.session_ops.specs.Dropped.{Dropping}
use Rattle.session_ops.specs.declared.committing.Settled.{Settled}
use Rattle.session_ops.specs.declared.committing.CommitError.{CommitError}
use Rattle.cluster_turns.specs.Notes.{is_above}
use Rattle.session_ops.specs.declared.rolling.BackError.{BackError}
use Rattle.session_ops.specs.WentBack.{GoingBack, has_died as has_died_back}
use Rattle.session_ops.specs.Undone.{LeftBy}
use Rattle.session_ops.specs.Standings.{StandsAs, IsUnasked}
use Rattle.session_ops.specs.Committed.{CommitTold as Commits}
use Rattle.script_runs.specs.Seen.{Standing, Idle}
use Rattle.script_runs.specs.Told.{Begins, OperateTold, BackTold, CommitTold, AbortTold}
use Rattle.session_api.specs.Grounds.{HasMissed}
use Rattle.session_api.specs.Seeing.{seen_as, touched_in, is_active, unless_dead, after_commit, asked_after, after_abort, value_end, added_end, pairs_end, back_end, commit_end, abort_end}

-- an operation at this key
pub data IsAt (key : ℕ) : Op → Type 0 where
  gets : IsAt key (Get key)
  puts : (value : ValueType) → IsAt key (Put key value)
  dels : IsAt key (Del key)

-- its entry is the operation's, if it was answered; else there is none, but where the transaction died of it, and then there are drops behind it
abbrev pub PointsTell : (M S G : Type 0) → Type 0
PointsTell M S G =
    (sh : Shards M S G) (w v : Walker M S G) (asked : Point) (p q : SessionState) (birth : Birth) (key : ℕ) (op : Op) (r : Result (Option ValueType) OpError) → IsAt key op → IsActive sh w p → p.birth ≡ Some birth → IsSameWalker w v
    → PointTold value_in sh w p op key r v q → StandsUnless (has_died r) sh v q
    → OperateTold p.tx birth p.nth (touched_in p.touched) op (value_end r) (seen_as sh w asked (is_active p birth)) (seen_as sh v asked (unless_dead q birth (has_died r)))

-- so is that of an addition
abbrev pub AddsTell : (M S G : Type 0) → Type 0
AddsTell M S G =
    (sh : Shards M S G) (w v : Walker M S G) (asked : Point) (p q : SessionState) (birth : Birth) (key by : ℕ) (r : Result Bool OpError) → IsActive sh w p → p.birth ≡ Some birth → IsSameWalker w v
    → PointTold added_in sh w p (Add key by) key r v q → StandsUnless (has_died r) sh v q
    → OperateTold p.tx birth p.nth (touched_in p.touched) (Add key by) (added_end r) (seen_as sh w asked (is_active p birth)) (seen_as sh v asked (unless_dead q birth (has_died r)))

-- a scan's entries are those of its parts, shards rising, up to one that wasn't answered; where it died of one, there are drops behind it
abbrev pub ScansTell : (M S G : Type 0) → Type 0
ScansTell M S G =
    (sh : Shards M S G) (w v : Walker M S G) (asked : Point) (p q : SessionState) (birth : Birth) (lo hi : ℕ) (r : Result (List (ℕ × ValueType)) OpError) → IsTrue (are_splits sh.splits) → lo ≤ hi → hi < 2 ^ 64 → IsActive sh w p → p.birth ≡ Some birth
    → PartsTold sh birth (p.nth + 1) lo hi w p r v q → StandsUnless (has_died r) sh v q
    → OperateTold p.tx birth p.nth (touched_in p.touched) (Scan lo hi) (pairs_end r) (seen_as sh w asked (is_active p birth)) (seen_as sh v asked (unless_dead q birth (has_died r)))

-- a going back's entries are those of its parts, shards rising: on each where a write of a later operation stood; where it died of one, there are drops behind it. Where
-- none stood it makes none
abbrev pub BacksTell : (M S G : Type 0) → Type 0
BacksTell M S G =
    (sh : Shards M S G) (w v : Walker M S G) (asked : Point) (p q : SessionState) (birth : Birth) (upto : ℕ) (r : Result Unit BackError) → IsActive sh w p → p.birth ≡ Some birth → IsSameWalker w v
    → GoingBack (length sh.locks.items) w.number w.clock w.passes.items p upto r v.clock v.passes.items q → LeftBy sh p upto r v q → StandsUnless (has_died_back r) sh v q
    → BackTold p.tx birth p.nth (touched_in p.touched) upto p.written (back_end (is_above upto p.written) upto r) (seen_as sh w asked (is_active p birth)) (seen_as sh v asked (unless_dead q birth (has_died_back r)))

-- an abort's entries are drops of the transaction; each shard that it touched has one, or the drop came to nothing there
abbrev pub AbortsTell : (M S G A : Type 0) → Type 0
AbortsTell M S G A =
    (sh : Shards M S G) (w v : Walker M S G) (asked : Point) (p : SessionState) (birth : Birth) (r : Result A WornClock) (en : Standing) → IsUnasked sh w p → p.birth ≡ Some birth → IsSameWalker w v
    → Dropping w.number w.clock w.passes.items p.tx p.touched None 0 (length sh.locks.items) r v.clock v.passes.items
    → AbortTold (HasMissed v) p.tx birth (touched_in p.touched) (abort_end r) (seen_as sh w asked (is_active p birth)) (seen_as sh v asked (after_abort birth r en))

-- a commit's are its request, a look that was told its decision, and drops where it was aborted. The point that it answers is that of its request
abbrev pub CommitsTell : (M S G : Type 0) → Type 0
CommitsTell M S G =
    (sh : Shards M S G) (w v : Walker M S G) (asked : Point) (p q : SessionState) (birth : Birth) (stamp : ℕ) (r : Result Settled CommitError) → IsActive sh w p → p.birth ≡ Some birth → IsSameWalker w v → Commits (length sh.locks.items) w p stamp r v q
    → StandsAs sh v q
    → CommitTold p.tx birth p.nth (touched_in p.touched) (commit_end r) (seen_as sh w asked (is_active p birth)) (seen_as sh v (asked_after asked r) (after_commit q birth r))

-- a beginning makes no entry, and the transaction has none so far
abbrev pub BeginningsTell : (M S G : Type 0) → Type 0
BeginningsTell M S G =
    (sh : Shards M S G) (w v : Walker M S G) (asked : Point) (p : SessionState) (again : Option Birth) → Begun sh w v p
    → (birth : Birth) × (p.birth ≡ Some birth) × (birth.session ≡ w.number) × (w.clock < birth.stamp) × (birth.stamp ≤ v.clock) × Begins birth (seen_as sh w asked (Idle again)) (seen_as sh v asked (is_active p birth))

-- nor does another try, and it has the birth of the last one
abbrev pub RetriesTell : (M S G : Type 0) → Type 0
RetriesTell M S G =
    (sh : Shards M S G) (w v : Walker M S G) (asked : Point) (last p : SessionState) (birth : Birth) → last.birth ≡ Some birth → Retried sh w v last p
    → (p.birth ≡ Some birth) × Begins birth (seen_as sh w asked (Idle (Some birth))) (seen_as sh v asked (is_active p birth))
