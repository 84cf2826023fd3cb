-- What a transaction in its tries, and a session of a script, tell.
use Rattle.std.specs.Prelude.{◌≡◌, ◌⊎◌, ⊤, ℕ, ◌<◌, ◌≤◌, suc, true, false, List, [], ◌∷◌, map, length, Option, Some, None, Result, Ok, Err}
use Rattle.std.specs.List.{AllByRecursion}
use Rattle.clv_base.specs.declared.names.TxId.{TxId}
use Rattle.clv_base.specs.declared.names.Birth.{Birth}
use Rattle.clv_base.specs.Journals.{History}
use Rattle.script_lang.specs.Bodies.{Body}
use Rattle.script_runs.specs.declared.ends.StopCause.{StopCause}
use Rattle.script_runs.specs.declared.ends.StopCause.TheVariants.{Worn}
use Rattle.script_runs.specs.declared.ends.TryEnd.{TryEnd}
use Rattle.script_runs.specs.declared.ends.TryEnd.TheVariants.{Stopped}
use Rattle.script_runs.specs.Tries.{Try, IsTry}
use Rattle.script_runs.specs.Sessions.{Transaction, InTries, IsNamed, IsTransaction, FollowsScript, is_to_retry, stopped_by, has_left, tries_of, entries_of}
use Rattle.script_runs.specs.declared.retrying.Next.{Next}
use Rattle.script_runs.specs.declared.retrying.Next.TheVariants.{Again, Done, Stop}
use Rattle.script_runs.specs.Dropped.{AllLetGo}
use Rattle.script_runs.specs.Seen.{Idle, Seen, Misses, GrowsFrom, GrowsIn, Grows}

-- numbers that rise, all above lo and up to hi
abbrev pub Rise : ℕ → List ℕ → ℕ → Type 0
Rise lo [] hi = lo ≤ hi
Rise lo (n ∷ ns) hi = (lo < n) × Rise n ns hi

abbrev pub serials : List Try → List ℕ
serials ts = map (λ t. (t.tx).serial) ts

abbrev pub stamps : List Transaction → List ℕ
stamps trs = map (λ tr. (tr.birth).stamp) trs

-- what follows a try, the n-th of at most so many
abbrev pub NextIs : TryEnd → Option ℕ → ℕ → Next → Type 0
NextIs end most n Again = (is_to_retry end ≡ true) × (has_left most n ≡ true)
NextIs end most n Done = ((is_to_retry end ≡ false) × (stopped_by end ≡ None)) ⊎ ((is_to_retry end ≡ true) × (has_left most n ≡ false))
NextIs end most n (Stop cause) = end ≡ Stopped cause

-- what stopped a session, if anything did
abbrev pub stop_in : {A : Type 0} → Result A StopCause → Option StopCause
stop_in (Ok a) = None
stop_in (Err cause) = Some cause

-- none is active
abbrev pub IsIdle : Seen → Type 0
IsIdle u = (again : Option Birth) × (u.standing ≡ Idle again)

abbrev pub IdleAfter : {A : Type 0} → Result A StopCause → Seen → Type 0
IdleAfter (Ok a) u = IsIdle u
IdleAfter (Err cause) u = ⊤

-- the entries that were added are tries of the transaction, of which the first has this name
pub record InTriesTold (missed : Misses) (body : Body) (first : TxId) (birth : Birth) (most : Option ℕ) (cause : Option StopCause) (u v : Seen) : Type 0 where
  pub tries : List Try
  pub each : AllByRecursion (IsTry u.splits body birth) tries
  pub named : AllByRecursion (IsNamed u.run u.walker) tries
  pub in_tries : InTries most 1 tries cause
  pub more : ℕ
  pub counted : length tries ≡ suc more
  pub grows : GrowsIn more (entries_of tries) u v
  pub serials_rise : (lo : ℕ) → lo < first.serial → Rise lo (serials tries) v.serial
  pub dropped : AllLetGo missed v.clock tries

-- they are the transaction's
pub record Ran (missed : Misses) (body : Body) (most : Option ℕ) (cause : Option StopCause) (u v : Seen) : Type 0 where
  pub birth : Birth
  pub tries : List Try
  pub is_transaction : IsTransaction u.splits u.run u.walker most (record { body = body; birth = birth; tries = tries }) cause
  pub grows : GrowsIn (length tries) (entries_of tries) u v
  pub later : u.clock < birth.stamp
  pub earlier : birth.stamp ≤ v.clock
  pub serials_rise : Rise u.serial (serials tries) v.serial
  pub dropped : AllLetGo missed v.clock tries

-- it couldn't begin
abbrev pub NotBegun : Option StopCause → Seen → Seen → Type 0
NotBegun cause u v = (at : ℕ) × (cause ≡ Some (Worn at)) × Grows [] u v

-- the entries that were added are those of the session's transactions, in order, each in its tries, with births and serials past all earlier ones; and
-- each try that was given up let go of its parts. The clock rose from this base
abbrev pub FollowsFrom : ℕ → Misses → List Body → Option ℕ → Option StopCause → Seen → Seen → Type 0
FollowsFrom base missed bodies most cause u v =
    (es : History) × (f : FollowsScript u.splits u.run u.walker most bodies cause es) × GrowsFrom base (length (tries_of f.transactions)) es u v
    × Rise u.clock (stamps f.transactions) v.clock × Rise u.serial (serials (tries_of f.transactions)) v.serial × AllLetGo missed v.clock (tries_of f.transactions)

-- it rose from the session's own
abbrev pub Follows : Misses → List Body → Option ℕ → Option StopCause → Seen → Seen → Type 0
Follows missed bodies most cause u v = FollowsFrom u.clock missed bodies most cause u v
