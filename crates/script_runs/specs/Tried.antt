-- What a try, a transaction in its tries, and a session of a script tell.
use Rattle.std.specs.Prelude.{◌≡◌, ⊤, List, Some, None, Result, Ok, Err}
use Rattle.clv_base.specs.declared.names.TxId.{TxId}
use Rattle.clv_base.specs.declared.names.Birth.{Birth}
use Rattle.clv_base.specs.Journals.{History}
use Rattle.script_lang.specs.Bodies.{Body}
use Rattle.session_books.specs.Done.{Done}
use Rattle.script_runs.specs.declared.ends.StopCause.{StopCause}
use Rattle.script_runs.specs.declared.ends.TryEnd.{TryEnd}
use Rattle.script_runs.specs.declared.ends.TryEnd.TheVariants.{Acknowledged, Empty, Asked, Aborted, Stopped}
use Rattle.script_runs.specs.Tries.{IsTry}
use Rattle.script_runs.specs.Dropped.{LetsGo}
use Rattle.script_runs.specs.Seen.{Standing, Idle, Seen, Misses, Grows}

-- how a try leaves the session: ready for a next one, with its birth where it was aborted
abbrev pub LeftBy : Birth → TryEnd → Standing → Type 0
LeftBy birth Acknowledged st = st ≡ Idle None
LeftBy birth Empty st = st ≡ Idle None
LeftBy birth Asked st = st ≡ Idle (Some birth)
LeftBy birth (Aborted cause) st = st ≡ Idle (Some birth)
LeftBy birth (Stopped cause) st = ⊤

-- the entries that were added are a try of the transaction, which let go of its parts where it was given up
pub record Tried (missed : Misses) (body : Body) (tx : TxId) (birth : Birth) (end : TryEnd) (u v : Seen) : Type 0 where
  pub acts : List Done
  pub entries : History
  pub is_try : IsTry u.splits body birth (record { tx = tx; acts = acts; end = end; entries = entries })
  pub grows : Grows entries u v
  pub left : LeftBy birth end v.standing
  pub dropped : LetsGo missed v.clock (record { tx = tx; acts = acts; end = end; entries = entries }) end

-- what holds where a session is stopped
abbrev pub OnStop : (StopCause → Type 0) → TryEnd → Type 0
OnStop P Acknowledged = ⊤
OnStop P Empty = ⊤
OnStop P Asked = ⊤
OnStop P (Aborted cause) = ⊤
OnStop P (Stopped cause) = P cause

abbrev pub OnRefusal : {A : Type 0} → (StopCause → Type 0) → Result A TryEnd → Type 0
OnRefusal P (Ok a) = ⊤
OnRefusal P (Err end) = OnStop P end
