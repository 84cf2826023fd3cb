-- What a live session's lines come to.
use Rattle.std.specs.Prelude.{◌≡◌, ◌⊎◌, ⊤, ℕ, suc, Bool, true, false, List, [], ◌∷◌, ◌++◌, Option, Some, None, Result, Ok, Err}
use Rattle.clv_base.specs.declared.names.TxId.{TxId}
use Rattle.clv_base.specs.declared.names.Birth.{Birth}
use Rattle.clv_base.specs.declared.causes.AbortCause.TheVariants as cause
use Rattle.clv_base.specs.Journals.{History}
use Rattle.live_lines.specs.declared.calls.Call.{Call}
use Rattle.live_lines.specs.declared.calls.Call.TheVariants.{Begin, Retry, Operate, Save, Back, Commit, Abort}
use Rattle.live_lines.specs.declared.calls.Asked.{Asked}
use Rattle.live_lines.specs.declared.calls.Asked.TheVariants as asks
use Rattle.live_lines.specs.declared.calls.Refusal.{Refusal}
use Rattle.live_lines.specs.declared.calls.Refusal.TheVariants as refusal
use Rattle.live_lines.specs.declared.calls.Reply.{Reply}
use Rattle.live_lines.specs.declared.calls.Reply.TheVariants.{Begun, Answered, Saved, WentBack, Committed, Empty, Aborted, Refused}
use Rattle.live_lines.specs.declared.calls.Reply.TheVariants as tells
use Rattle.script_runs.specs.declared.ends.StopCause.{StopCause}
use Rattle.script_runs.specs.declared.ends.StopCause.TheVariants.{Down, Unsettled, Worn, Memory}
use Rattle.script_runs.specs.declared.ends.TryEnd.{TryEnd}
use Rattle.script_runs.specs.declared.ends.TryEnd.TheVariants as end
use Rattle.script_lang.specs.Savepoints.{upto_of}
use Rattle.session_books.specs.Done as done
use Rattle.script_runs.specs.Seen.{Standing, Idle, Active, Asked as RequestStands, Seen, Going, going_at_start, going_on, going_saved, going_back_to, Grows, IsWornOut}
use Rattle.script_runs.specs.Ran.{IsIdle}
use Rattle.script_runs.specs.Told.{has_range, BeginTold, RetryTold, OperateTold, BackTold, CommitTold, AreDropsOf}
use Rattle.live_sessions.specs.declared.answering.Course.{Course}

-- the line that was taken, if one was
abbrev pub listed : {A : Type 0} → Option A → List A
listed None = []
listed (Some a) = a ∷ []

-- ---- how a session stands

-- a transaction is active, of which this holds
abbrev pub InTx : Seen → (TxId → Birth → ℕ → (ℕ → Bool) → Type 0) → Type 0
InTx u P = (tx : TxId) × (birth : Birth) × (nth : ℕ) × (touched : ℕ → Bool) × (u.standing ≡ Active tx birth nth touched) × P tx birth nth touched

abbrev pub IsActive : Seen → Type 0
IsActive u = (tx : TxId) × (birth : Birth) × (nth : ℕ) × (touched : ℕ → Bool) × (u.standing ≡ Active tx birth nth touched)

-- the last one ended by an abort
abbrev pub IsLast : Seen → Type 0
IsLast u = (birth : Birth) × (u.standing ≡ Idle (Some birth))

-- of an active transaction no going back was left undone
abbrev pub IsWhole : Seen → Option Going → Type 0
IsWhole u over = IsActive u → (g : Going) × (over ≡ Some g)

-- what is told of how a session goes on is so: what it has ended by has its grounds, what may be tried again ended by an abort, and what is active is whole
abbrev pub GoesBy : (StopCause → Type 0) → Bool → Option StopCause → Seen → Option Going → Type 0
GoesBy grounds may_retry (Some why) u over = grounds why
GoesBy grounds true None u over = IsLast u
GoesBy grounds false None u over = IsWhole u over

abbrev pub Goes : (StopCause → Type 0) → Course → Seen → Option Going → Type 0
Goes grounds course u over = GoesBy grounds course.may_retry course.ended u over

-- ---- one line

-- what is said of a cause
abbrev pub reply_by : StopCause → Reply
reply_by (Down n) = tells.Down n
reply_by (Unsettled n) = tells.Unsettled n
reply_by (Worn at) = tells.Worn at
reply_by Memory = tells.Memory

-- drops of the active transaction, on shards that it touched; it has ended by an abort, unless stamps were wanting
abbrev pub Leaves : TxId → Birth → (ℕ → Bool) → Result (Unit {0}) StopCause → Seen → Seen → Type 0
Leaves tx birth touched (Ok a) u v = (drops : History) × AreDropsOf tx touched None drops × Grows drops u v × (v.standing ≡ Idle (Some birth))
Leaves tx birth touched (Err (Worn at)) u v = (drops : History) × AreDropsOf tx touched None drops × Grows drops u v × IsWornOut v
Leaves tx birth touched (Err Memory) u v = ⊥
Leaves tx birth touched (Err (Down n)) u v = ⊥
Leaves tx birth touched (Err (Unsettled n)) u v = ⊥

abbrev pub Drops : Seen → Seen → Type 0
Drops u v = InTx u (λ tx birth nth touched. (result : Result (Unit {0}) StopCause) × Leaves tx birth touched result u v)

-- the savepoint of this number stands, and this holds of what may be gone back over and of where it leads
abbrev pub StandsIn : Option Going → ℕ → (Going → ℕ → Type 0) → Type 0
StandsIn over number P = (g : Going) × (upto : ℕ) × (over ≡ Some g) × (upto_of number g.saves.standing ≡ Some upto) × P g upto

-- a line came to this reply, and the session from the one to the other, where this could be gone back over
abbrev pub Did : Option Going → Asked → Reply → Seen → Seen → Type 0
Did over asked (Refused why) u v = v ≡ u
Did over (asks.Call Begin) (Begun n) u v = BeginTold (Ok (tt {0})) u v × (n ≡ v.serial)
Did over (asks.Call Begin) (tells.Worn at) u v = BeginTold {A = Unit {0}} (Err (Worn at)) u v
Did over (asks.Call Retry) (Begun n) u v = (birth : Birth) × (u.standing ≡ Idle (Some birth)) × RetryTold birth (Ok (tt {0})) u v × (n ≡ v.serial)
Did over (asks.Call Retry) (tells.Down n) u v = (birth : Birth) × (u.standing ≡ Idle (Some birth)) × RetryTold {A = Unit {0}} birth (Err (Down n)) u v
Did over (asks.Call Retry) (tells.Worn at) u v = (birth : Birth) × (u.standing ≡ Idle (Some birth)) × RetryTold {A = Unit {0}} birth (Err (Worn at)) u v
Did over (asks.Call (Operate op)) (Answered of a) u v = (of ≡ op) × InTx u (λ tx birth nth touched. OperateTold tx birth nth touched op (Ok a) u v)
Did over (asks.Call (Operate op)) (Aborted why) u v = InTx u (λ tx birth nth touched. OperateTold tx birth nth touched op (Err (end.Aborted why)) u v)
Did over (asks.Call (Operate op)) (tells.Down n) u v =
    (m : Seen) × InTx u (λ tx birth nth touched. OperateTold tx birth nth touched op (Err (end.Stopped (Down n))) u m) × Drops m v
Did over (asks.Call (Operate op)) (tells.Worn at) u v = InTx u (λ tx birth nth touched. OperateTold tx birth nth touched op (Err (end.Stopped (Worn at))) u v)
Did over (asks.Call (Operate op)) tells.Memory u v = InTx u (λ tx birth nth touched. OperateTold tx birth nth touched op (Err (end.Stopped Memory)) u v)
Did over (asks.Call Save) (Saved n) u v = IsActive u × (g : Going) × (over ≡ Some g) × (n ≡ suc g.saves.kept) × (v ≡ u)
Did over (asks.Call Save) tells.Memory u v = IsActive u × (v ≡ u)
Did over (asks.Call (Back number)) (WentBack n) u v =
    (n ≡ number) × StandsIn over number (λ g upto. InTx u (λ tx birth nth touched. (to : Option ℕ) × BackTold tx birth nth touched upto g.written (Ok to) u v))
Did over (asks.Call (Back number)) (Aborted why) u v =
    StandsIn over number (λ g upto. InTx u (λ tx birth nth touched. BackTold tx birth nth touched upto g.written (Err (end.Aborted why)) u v))
Did over (asks.Call (Back number)) (tells.Down n) u v =
    (m : Seen) × StandsIn over number (λ g upto. InTx u (λ tx birth nth touched. BackTold tx birth nth touched upto g.written (Err (end.Stopped (Down n))) u m)) × Drops m v
Did over (asks.Call (Back number)) (tells.Worn at) u v =
    StandsIn over number (λ g upto. InTx u (λ tx birth nth touched. BackTold tx birth nth touched upto g.written (Err (end.Stopped (Worn at))) u v))
Did over (asks.Call Commit) (Committed n) u v = InTx u (λ tx birth nth touched. CommitTold tx birth nth touched end.Acknowledged u v × (n ≡ tx.serial))
Did over (asks.Call Commit) (Empty n) u v = InTx u (λ tx birth nth touched. CommitTold tx birth nth touched end.Empty u v × (n ≡ tx.serial))
Did over (asks.Call Commit) (Aborted why) u v = InTx u (λ tx birth nth touched. CommitTold tx birth nth touched (end.Aborted why) u v)
Did over (asks.Call Commit) (tells.Down n) u v =
    (m : Seen) × InTx u (λ tx birth nth touched. CommitTold tx birth nth touched (end.Stopped (Down n)) u m) × Drops m v
Did over (asks.Call Commit) (tells.Unsettled n) u v = InTx u (λ tx birth nth touched. CommitTold tx birth nth touched (end.Stopped (Unsettled n)) u v)
Did over (asks.Call Commit) (tells.Worn at) u v = InTx u (λ tx birth nth touched. CommitTold tx birth nth touched (end.Stopped (Worn at)) u v)
Did over (asks.Call Commit) tells.Memory u v = InTx u (λ tx birth nth touched. CommitTold tx birth nth touched (end.Stopped Memory) u v)
Did over (asks.Call Abort) (Aborted cause.Asked) u v = InTx u (λ tx birth nth touched. Leaves tx birth touched (Ok (tt {0})) u v)
Did over (asks.Call Abort) (tells.Worn at) u v = InTx u (λ tx birth nth touched. Leaves tx birth touched (Err (Worn at)) u v)
Did over asked reply u v = ⊥

-- what can be gone back over behind it
abbrev pub Over : Reply → Seen → Option Going → Option Going → Type 0
Over (Refused why) u over now = now ≡ over
Over (Begun n) u over now = now ≡ Some going_at_start
Over (Answered op a) u over now = InTx u (λ tx birth nth touched. (g : Going) × (over ≡ Some g) × (now ≡ Some (going_on u.splits (suc nth) (done.Did op a) g)))
Over (Saved n) u over now = InTx u (λ tx birth nth touched. (g : Going) × (over ≡ Some g) × (now ≡ Some (going_saved nth g)))
Over (WentBack n) u over now = StandsIn over n (λ g upto. now ≡ Some (going_back_to n upto g))
Over reply u over now = ⊤

-- ---- refusals

-- why a call is refused: it begins a transaction, and one is active; it needs one, and none is; there is none to try again; it is a scan whose bounds
-- fall; it goes back to a savepoint that doesn't stand; or a request stands
abbrev pub MayRefuseCall : Option Going → Bool → Call → Refusal → Seen → Type 0
MayRefuseCall over may_retry call refusal.Ended u = u.standing ≡ RequestStands
MayRefuseCall over may_retry Begin refusal.Active u = IsActive u
MayRefuseCall over may_retry Retry refusal.Active u = IsActive u
MayRefuseCall over may_retry (Operate op) refusal.NoTx u = IsIdle u
MayRefuseCall over may_retry Save refusal.NoTx u = IsIdle u
MayRefuseCall over may_retry (Back number) refusal.NoTx u = IsIdle u
MayRefuseCall over may_retry Commit refusal.NoTx u = IsIdle u
MayRefuseCall over may_retry Abort refusal.NoTx u = IsIdle u
MayRefuseCall over false Retry refusal.NoRetry u = IsIdle u
MayRefuseCall over may_retry (Operate op) refusal.Unknown u = IsActive u × (has_range op ≡ false)
MayRefuseCall over may_retry (Back number) refusal.NoSavepoint u = IsActive u × (g : Going) × (over ≡ Some g) × (upto_of number g.saves.standing ≡ None)
MayRefuseCall over may_retry call why u = ⊥

-- why a line is refused: where the session has ended, for that alone
abbrev pub MayRefuseBy : Option Going → Option StopCause → Bool → Asked → Refusal → Seen → Type 0
MayRefuseBy over (Some cause) may_retry asked why u = why ≡ refusal.Ended
MayRefuseBy over None may_retry (asks.Call call) why u = MayRefuseCall over may_retry call why u
MayRefuseBy over None may_retry asks.Unknown why u = why ≡ refusal.Unknown
MayRefuseBy over None may_retry asks.NoMemory why u = why ≡ refusal.NoMemory

abbrev pub MayRefuse : Option Going → Course → Asked → Refusal → Seen → Type 0
MayRefuse over course asked why u = MayRefuseBy over course.ended course.may_retry asked why u

-- ---- how a session goes on

-- it has not ended, and its last transaction may be tried again, or may not
abbrev pub GoesOn : Bool → Course → Type 0
GoesOn may_retry next = (next.may_retry ≡ may_retry) × (next.ended ≡ None)

-- behind a reply that is no refusal. What was aborted may be tried again; so may what was dropped as a shard is down, unless stamps were wanting for it
abbrev pub LeadsBy : Reply → Course → Seen → Type 0
LeadsBy (Refused why) next v = ⊥
LeadsBy (Aborted why) next v = GoesOn true next
LeadsBy (tells.Down n) next v = GoesOn true next ⊎ ((at : ℕ) × (next.ended ≡ Some (Worn at)) × IsWornOut v)
LeadsBy (tells.Unsettled n) next v = next.ended ≡ Some (Unsettled n)
LeadsBy (tells.Worn at) next v = next.ended ≡ Some (Worn at)
LeadsBy tells.Memory next v = next.ended ≡ Some Memory
LeadsBy reply next v = GoesOn false next

-- a further try that didn't begin as a shard was down is not tried again
abbrev pub Leads : Call → Reply → Course → Seen → Type 0
Leads Retry (tells.Down n) next v = GoesOn false next
Leads call reply next v = LeadsBy reply next v

-- from the one to the other by a line: it was refused for a cause, and all is as before; or it is a call, and the session had not ended
abbrev pub Turns : Option Going → Course → Asked → Reply → Course → Seen → Seen → Type 0
Turns over course asked (Refused why) next u v = MayRefuse over course asked why u × (next ≡ course)
Turns over course (asks.Call call) reply next u v = (course.ended ≡ None) × Leads call reply next v
Turns over course asked reply next u v = ⊥

-- ---- all lines

-- lines were done one after another, each with its reply, and the session goes on so; this can be gone back over then
pub data Served : List Asked → List Reply → Seen → Course → Seen → Option Going → Type 0 where
  none_taken : (u : Seen) (first : Course) (over : Option Going) → GoesOn false first → Served [] [] u first u over
  line_taken :
      (asked : List Asked) (replies : List Reply) (a : Asked) (r : Reply) (u m v : Seen) (course next : Course) (over now : Option Going)
      → Served asked replies u course m over → Did over a r m v → Over r m over now → Turns over course a r next m v
      → Served (asked ++ a ∷ []) (replies ++ r ∷ []) u next v now

-- each reply was told; or all but the last one, as nobody takes replies any more
abbrev pub AreTold : Bool → List Reply → List Reply → List Reply → Type 0
AreTold true old new replies = new ≡ old ++ replies
AreTold false old new replies = (front : List Reply) × (last : Reply) × (replies ≡ front ++ last ∷ []) × (new ≡ old ++ front)

-- the session's end: an open transaction is dropped, unless the session has ended before
abbrev pub ClosesBy : Option StopCause → Standing → Seen → Seen → Type 0
ClosesBy None (Active tx birth nth touched) u v = Drops u v
ClosesBy ended standing u v = v ≡ u

abbrev pub Closes : Course → Seen → Seen → Type 0
Closes course u v = ClosesBy course.ended u.standing u v

-- it did the lines that it took, told its replies, all of them or all but the last, and came to its end
pub record HasServed (all_told : Bool) (taken taken' : List Asked) (told told' : List Reply) (u v : Seen) : Type 0 where
  pub asked : List Asked
  pub replies : List Reply
  pub last : Seen
  pub course : Course
  pub over : Option Going
  pub took : taken' ≡ taken ++ asked
  pub served : Served asked replies u course last over
  pub tells : AreTold all_told told told' replies
  pub closes : Closes course last v

-- ---- a try that didn't end well

abbrev pub IsOtherEnd : TryEnd → Seen → Type 0
IsOtherEnd (end.Aborted why) u = IsLast u
IsOtherEnd (end.Stopped (Down n)) u = IsActive u
IsOtherEnd (end.Stopped why) u = ⊤
IsOtherEnd e u = ⊥

-- where a shard was down it was dropped; else nothing more was done
abbrev pub EndTold : TryEnd → Reply → Seen → Seen → Type 0
EndTold (end.Aborted why) reply u v = (reply ≡ Aborted why) × (v ≡ u)
EndTold (end.Stopped (Down n)) reply u v = (reply ≡ tells.Down n) × Drops u v
EndTold (end.Stopped why) reply u v = (reply ≡ reply_by why) × (v ≡ u)
EndTold e reply u v = ⊥
