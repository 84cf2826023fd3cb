-- What a call tells is what its line came to.
use Rattle.std.proofs.Common.{◌≡◌, refl, sym, subst, ap, ◌∙◌, ℕ, Bool, true, false, List, [], ◌∷◌, ◌++◌, Option, Some, None, is_some, Result, Ok, Err}
use Rattle.clv_base.specs.declared.names.TxId.{TxId}
use Rattle.clv_base.specs.declared.names.Birth.{Birth}
use Rattle.clv_base.specs.declared.ops.Op.{Op}
use Rattle.live_lines.specs.declared.calls.Call.TheVariants.{Retry, Operate, Back, Commit, Abort}
use Rattle.live_lines.specs.declared.calls.Call.{Call}
use Rattle.live_lines.specs.declared.calls.Asked.TheVariants as asks
use Rattle.live_lines.specs.declared.calls.Reply.{Reply}
use Rattle.live_lines.specs.declared.calls.Reply.TheVariants as tells
use Rattle.script_runs.specs.declared.ends.StopCause.{StopCause}
use Rattle.script_runs.specs.declared.ends.StopCause.TheVariants.{Down, Unsettled, Worn, Memory}
use Rattle.script_runs.specs.declared.ends.TryEnd.{TryEnd}
use Rattle.script_runs.specs.declared.ends.TryEnd.TheVariants as end
use Rattle.script_runs.specs.declared.calls.Stage.{Stage}
use Rattle.script_runs.specs.declared.calls.Stage.TheVariants as stage
use Rattle.script_runs.specs.Seen.{Standing, Idle, Active, Asked, Seen, Going, Misses, IsStage}
use Rattle.script_runs.specs.Ran.{IsIdle}
use Rattle.script_lang.specs.Savepoints.{upto_of}
use Rattle.script_runs.specs.Told.{RetryTold, OperateTold, BackTold, CommitTold, AbortTold}
use Rattle.live_sessions.specs.Served.{IsActive, IsLast, IsWhole, GoesBy, Goes, Leaves, Drops, ClosesBy, Did, Over, EndTold, IsOtherEnd, reply_by}
use Rattle.live_sessions.specs.declared.answering.Course.{Course}

-- ---- drops

pub leaves : (missed : Misses) (tx : TxId) (birth : Birth) (touched : ℕ → Bool) (r : Result (Unit {0}) StopCause) (u v : Seen) → AbortTold missed tx birth touched r u v → Leaves tx birth touched r u v
leaves missed tx birth touched (Ok a) u v (drops, are, grows, standing, each) = (drops, are, grows, standing)
leaves missed tx birth touched (Err (Worn at)) u v told = told
leaves missed tx birth touched (Err Memory) u v told = told
leaves missed tx birth touched (Err (Down n)) u v told = told
leaves missed tx birth touched (Err (Unsettled n)) u v told = told

pub drops : (missed : Misses) (r : Result (Unit {0}) StopCause) (u v : Seen) → IsActive u → ((tx : TxId) (birth : Birth) (nth : ℕ) (touched : ℕ → Bool) → u.standing ≡ Active tx birth nth touched → AbortTold missed tx birth touched r u v) → Drops u v
drops missed r u v (tx, birth, nth, touched, is) told = (tx, birth, nth, touched, is, (r, leaves missed tx birth touched r u v (told tx birth nth touched is)))

-- an abort that was stopped
pub abort_stopped :
    (over : Option Going) (missed : Misses) (why : StopCause) (u v : Seen) → IsActive u → ((tx : TxId) (birth : Birth) (nth : ℕ) (touched : ℕ → Bool) → u.standing ≡ Active tx birth nth touched → AbortTold {A = Unit {0}} missed tx birth touched (Err why) u v)
    → Did over (asks.Call Abort) (reply_by why) u v
abort_stopped over missed (Worn at) u v (tx, birth, nth, touched, is) told = (tx, birth, nth, touched, is, told tx birth nth touched is)
abort_stopped over missed Memory u v (tx, birth, nth, touched, is) told = absurd (told tx birth nth touched is)
abort_stopped over missed (Down n) u v (tx, birth, nth, touched, is) told = absurd (told tx birth nth touched is)
abort_stopped over missed (Unsettled n) u v (tx, birth, nth, touched, is) told = absurd (told tx birth nth touched is)

-- ---- further tries

-- one that didn't begin
pub retry_stopped :
    (over : Option Going) (why : StopCause) (u v : Seen) → IsLast u → ((birth : Birth) → u.standing ≡ Idle (Some birth) → RetryTold {A = Unit {0}} birth (Err why) u v) → Did over (asks.Call Retry) (reply_by why) u v
retry_stopped over (Down n) u v (birth, is) told = (birth, is, told birth is)
retry_stopped over (Worn at) u v (birth, is) told = (birth, is, told birth is)
retry_stopped over Memory u v (birth, is) told = absurd (told birth is)
retry_stopped over (Unsettled n) u v (birth, is) told = absurd (told birth is)

-- ---- operations

pub operate_other : (tx : TxId) (birth : Birth) (nth : ℕ) (touched : ℕ → Bool) (op : Op) (e : TryEnd) (u v : Seen) → OperateTold tx birth nth touched op (Err e) u v → IsOtherEnd e v
operate_other tx birth nth touched op (end.Aborted why) u v (here, gone, n, after, death, touches, are, grows, standing) = (birth, standing)
operate_other tx birth nth touched op (end.Stopped (Down n)) u v (here, after, begun, touches, grows, (m, standing)) = (tx, birth, m, after, standing)
operate_other tx birth nth touched op (end.Stopped (Worn at)) u v told = tt
operate_other tx birth nth touched op (end.Stopped Memory) u v told = tt
operate_other tx birth nth touched op (end.Stopped (Unsettled n)) u v told = tt
operate_other tx birth nth touched op end.Acknowledged u v told = told
operate_other tx birth nth touched op end.Empty u v told = told
operate_other tx birth nth touched op end.Asked u v told = told

-- nothing more was done
same_did : (over : Option Going) (call : Call) (r s : Reply) (u m v : Seen) → r ≡ s → v ≡ m → Did over (asks.Call call) s u m → Did over (asks.Call call) r u v
same_did over call r s u m v e f did = subst (λ (x : Seen). Did over (asks.Call call) r u x) (sym f) (subst (λ (x : Reply). Did over (asks.Call call) x u m) (sym e) did)

pub operate_did :
    (over : Option Going) (tx : TxId) (birth : Birth) (nth : ℕ) (touched : ℕ → Bool) (op : Op) (e : TryEnd) (r : Reply) (u m v : Seen) → u.standing ≡ Active tx birth nth touched → OperateTold tx birth nth touched op (Err e) u m → EndTold e r m v
    → Did over (asks.Call (Operate op)) r u v
operate_did over tx birth nth touched op (end.Aborted why) r u m v is told (reply, same) = same_did over (Operate op) r (tells.Aborted why) u m v reply same (tx, birth, nth, touched, is, told)
operate_did over tx birth nth touched op (end.Stopped (Down n)) r u m v is told (reply, gone) =
    subst (λ (x : Reply). Did over (asks.Call (Operate op)) x u v) (sym reply) (m, (tx, birth, nth, touched, is, told), gone)
operate_did over tx birth nth touched op (end.Stopped (Worn at)) r u m v is told (reply, same) = same_did over (Operate op) r (tells.Worn at) u m v reply same (tx, birth, nth, touched, is, told)
operate_did over tx birth nth touched op (end.Stopped Memory) r u m v is told (reply, same) = same_did over (Operate op) r tells.Memory u m v reply same (tx, birth, nth, touched, is, told)
operate_did over tx birth nth touched op (end.Stopped (Unsettled n)) r u m v is told ended = absurd told
operate_did over tx birth nth touched op end.Acknowledged r u m v is told ended = absurd told
operate_did over tx birth nth touched op end.Empty r u m v is told ended = absurd told
operate_did over tx birth nth touched op end.Asked r u m v is told ended = absurd told

-- ---- goings back

pub back_other : (tx : TxId) (birth : Birth) (nth : ℕ) (touched : ℕ → Bool) (upto : ℕ) (ws : List (ℕ × ℕ)) (e : TryEnd) (u v : Seen) → BackTold tx birth nth touched upto ws (Err e) u v → IsOtherEnd e v
back_other tx birth nth touched upto ws (end.Aborted why) u v (here, gone, n, death, on, are, grows, standing) = (birth, standing)
back_other tx birth nth touched upto ws (end.Stopped (Down n)) u v (here, begun, on, grows, (m, standing)) = (tx, birth, m, touched, standing)
back_other tx birth nth touched upto ws (end.Stopped (Worn at)) u v told = tt
back_other tx birth nth touched upto ws (end.Stopped Memory) u v told = tt
back_other tx birth nth touched upto ws (end.Stopped (Unsettled n)) u v told = tt
back_other tx birth nth touched upto ws end.Acknowledged u v told = told
back_other tx birth nth touched upto ws end.Empty u v told = told
back_other tx birth nth touched upto ws end.Asked u v told = told

module _ (over : Option Going) (number upto : ℕ) (g : Going) (is_over : over ≡ Some g) (stands : upto_of number g.saves.standing ≡ Some upto) where
  pub back_did :
      (tx : TxId) (birth : Birth) (nth : ℕ) (touched : ℕ → Bool) (e : TryEnd) (r : Reply) (u m v : Seen) → u.standing ≡ Active tx birth nth touched → BackTold tx birth nth touched upto g.written (Err e) u m → EndTold e r m v
      → Did over (asks.Call (Back number)) r u v
  back_did tx birth nth touched (end.Aborted why) r u m v is told (reply, same) =
      same_did over (Back number) r (tells.Aborted why) u m v reply same (g, upto, is_over, stands, (tx, birth, nth, touched, is, told))
  back_did tx birth nth touched (end.Stopped (Down n)) r u m v is told (reply, gone) =
      subst (λ (x : Reply). Did over (asks.Call (Back number)) x u v) (sym reply) (m, (g, upto, is_over, stands, (tx, birth, nth, touched, is, told)), gone)
  back_did tx birth nth touched (end.Stopped (Worn at)) r u m v is told (reply, same) =
      same_did over (Back number) r (tells.Worn at) u m v reply same (g, upto, is_over, stands, (tx, birth, nth, touched, is, told))
  back_did tx birth nth touched (end.Stopped Memory) r u m v is told ended = absurd told
  back_did tx birth nth touched (end.Stopped (Unsettled n)) r u m v is told ended = absurd told
  back_did tx birth nth touched end.Acknowledged r u m v is told ended = absurd told
  back_did tx birth nth touched end.Empty r u m v is told ended = absurd told
  back_did tx birth nth touched end.Asked r u m v is told ended = absurd told

-- ---- commits

pub commit_other : (tx : TxId) (birth : Birth) (nth : ℕ) (touched : ℕ → Bool) (e : TryEnd) (u v : Seen) → (e ≡ end.Acknowledged → ⊥) → (e ≡ end.Empty → ⊥) → CommitTold tx birth nth touched e u v → IsOtherEnd e v
commit_other tx birth nth touched (end.Aborted why) u v other also (by, standing) = (birth, standing)
commit_other tx birth nth touched (end.Stopped (Down n)) u v other also (grows, (m, standing)) = (tx, birth, m, touched, standing)
commit_other tx birth nth touched (end.Stopped (Worn at)) u v other also told = tt
commit_other tx birth nth touched (end.Stopped Memory) u v other also told = tt
commit_other tx birth nth touched (end.Stopped (Unsettled n)) u v other also told = tt
commit_other tx birth nth touched end.Acknowledged u v other also told = absurd (other refl)
commit_other tx birth nth touched end.Empty u v other also told = absurd (also refl)
commit_other tx birth nth touched end.Asked u v other also told = told

pub commit_did :
    (over : Option Going) (tx : TxId) (birth : Birth) (nth : ℕ) (touched : ℕ → Bool) (e : TryEnd) (r : Reply) (u m v : Seen) → u.standing ≡ Active tx birth nth touched → CommitTold tx birth nth touched e u m → EndTold e r m v
    → Did over (asks.Call Commit) r u v
commit_did over tx birth nth touched (end.Aborted why) r u m v is told (reply, same) = same_did over Commit r (tells.Aborted why) u m v reply same (tx, birth, nth, touched, is, told)
commit_did over tx birth nth touched (end.Stopped (Down n)) r u m v is told (reply, gone) =
    subst (λ (x : Reply). Did over (asks.Call Commit) x u v) (sym reply) (m, (tx, birth, nth, touched, is, told), gone)
commit_did over tx birth nth touched (end.Stopped (Worn at)) r u m v is told (reply, same) = same_did over Commit r (tells.Worn at) u m v reply same (tx, birth, nth, touched, is, told)
commit_did over tx birth nth touched (end.Stopped Memory) r u m v is told (reply, same) = same_did over Commit r tells.Memory u m v reply same (tx, birth, nth, touched, is, told)
commit_did over tx birth nth touched (end.Stopped (Unsettled n)) r u m v is told (reply, same) = same_did over Commit r (tells.Unsettled n) u m v reply same (tx, birth, nth, touched, is, told)
commit_did over tx birth nth touched end.Acknowledged r u m v is told ended = absurd ended
commit_did over tx birth nth touched end.Empty r u m v is told ended = absurd ended
commit_did over tx birth nth touched end.Asked r u m v is told ended = absurd ended

-- ---- what can be gone back over

pub idle_active : {X : Type 0} (u : Seen) → IsIdle u → IsActive u → X
idle_active u (again, idle) (tx, birth, nth, touched, active) = absurd (let x : Idle again ≡ Active tx birth nth touched = sym idle ∙ active in cc)

pub last_active : {X : Type 0} (u : Seen) → IsLast u → IsActive u → X
last_active u (birth, is) active = idle_active u (Some birth, is) active

whole_by : (grounds : StopCause → Type 0) (may_retry : Bool) (ended : Option StopCause) (u : Seen) (over : Option Going) → GoesBy grounds may_retry ended u over → ended ≡ None → IsWhole u over
whole_by grounds true None u over goes live = λ active. last_active u goes active
whole_by grounds false None u over goes live = goes
whole_by grounds may_retry (Some why) u over goes live = absurd cc

pub whole : (grounds : StopCause → Type 0) (course : Course) (u : Seen) (over : Option Going) → Goes grounds course u over → course.ended ≡ None → IsWhole u over
whole grounds course u over goes live = whole_by grounds course.may_retry course.ended u over goes live

pub goes_whole : (grounds : StopCause → Type 0) (course : Course) (u : Seen) (over : Option Going) → course.may_retry ≡ false → course.ended ≡ None → IsWhole u over → Goes grounds course u over
goes_whole grounds course u over retry live w = subst (λ b. GoesBy grounds b course.ended u over) (sym retry) (subst (λ e. GoesBy grounds false e u over) (sym live) w)

pub found_one : {X : Type 0} (o : Option X) → is_some o ≡ true → (x : X) × (o ≡ Some x)
found_one None h = absurd cc
found_one (Some x) h = (x, refl)

-- behind what ended a try, and behind what stopped the session, nothing is told of it
over_stopped : (why : StopCause) (u : Seen) (over now : Option Going) → Over (reply_by why) u over now
over_stopped (Down n) u over now = tt
over_stopped (Unsettled n) u over now = tt
over_stopped (Worn at) u over now = tt
over_stopped Memory u over now = tt

pub over_behind : (why : StopCause) (r : Reply) (u : Seen) (over now : Option Going) → r ≡ reply_by why → Over r u over now
over_behind why r u over now is = subst (λ x. Over x u over now) (sym is) (over_stopped why u over now)

pub over_ended : (e : TryEnd) (r : Reply) (u m v : Seen) (over now : Option Going) → EndTold e r m v → Over r u over now
over_ended (end.Aborted why) r u m v over now (reply, same) = subst (λ x. Over x u over now) (sym reply) tt
over_ended (end.Stopped (Down n)) r u m v over now (reply, gone) = over_behind (Down n) r u over now reply
over_ended (end.Stopped (Unsettled n)) r u m v over now (reply, same) = over_behind (Unsettled n) r u over now reply
over_ended (end.Stopped (Worn at)) r u m v over now (reply, same) = over_behind (Worn at) r u over now reply
over_ended (end.Stopped Memory) r u m v over now (reply, same) = over_behind Memory r u over now reply
over_ended end.Acknowledged r u m v over now ended = absurd ended
over_ended end.Empty r u m v over now ended = absurd ended
over_ended end.Asked r u m v over now ended = absurd ended

-- ---- stages

active_at : (st : Standing) (s : Stage) (b : Bool) → IsStage st s → s ≡ stage.Active b → (tx : TxId) × (birth : Birth) × (nth : ℕ) × (touched : ℕ → Bool) × (st ≡ Active tx birth nth touched)
active_at (Idle again) s b is e = absurd (let x : stage.Idle ≡ stage.Active b = sym is ∙ e in cc)
active_at (Active tx birth nth touched) s b is e = (tx, birth, nth, touched, refl)
active_at Asked s b is e = absurd (let x : stage.Asked ≡ stage.Active b = sym is ∙ e in cc)

pub active_by : (u : Seen) (s : Stage) (b : Bool) → IsStage u.standing s → s ≡ stage.Active b → IsActive u
active_by u s b is e = active_at u.standing s b is e

-- ---- the end

pub closes_dropped :
    (ended : Option StopCause) (standing : Standing) (s : Stage) (b : Bool) (u v : Seen) → ((why : StopCause) → ended ≡ Some why → ⊥) → IsStage standing s → s ≡ stage.Active b → Drops u v
    → ClosesBy ended standing u v
closes_dropped None (Active tx birth nth touched) s b u v live is e dropped = dropped
closes_dropped None (Idle again) s b u v live is e dropped = absurd (let x : stage.Idle ≡ stage.Active b = sym is ∙ e in cc)
closes_dropped None Asked s b u v live is e dropped = absurd (let x : stage.Asked ≡ stage.Active b = sym is ∙ e in cc)
closes_dropped (Some cause) standing s b u v live is e dropped = absurd (live cause refl)

-- ---- one more

assoc : {A : Type 0} (a b c : List A) → (a ++ b) ++ c ≡ a ++ (b ++ c)
assoc [] b c = refl
assoc (x ∷ a) b c = ap (λ l. x ∷ l) (assoc a b c)

pub more : {A : Type 0} (first now all : List A) (a : A) (later : List A) → now ≡ first ++ all → later ≡ now ++ a ∷ [] → later ≡ first ++ (all ++ a ∷ [])
more first now all a later is grown = grown ∙ (ap (λ l. l ++ a ∷ []) is ∙ assoc first all (a ∷ []))
