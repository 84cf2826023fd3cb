-- A transaction in its tries, and a session's transactions, one after another.
use Rattle.std.specs.Prelude.{◌≡◌, ℕ, suc, Bool, true, false, nat_lt, List, [], ◌∷◌, ◌++◌, map, filter, Option, Some, None}
use Rattle.std.specs.List.{AllByRecursion}
use Rattle.clv_base.specs.declared.names.Birth.{Birth}
use Rattle.clv_base.specs.declared.causes.AbortCause.TheVariants.{Asked, Died, Predecessor, NoVote, Restarted}
use Rattle.clv_base.specs.FileRules.{numbers_rise}
use Rattle.clv_base.specs.Journals.{History}
use Rattle.clv_base.specs.Sessions.{is_of_session}
use Rattle.script_lang.specs.Bodies.{Body}
use Rattle.script_runs.specs.declared.ends.StopCause.{StopCause}
use Rattle.script_runs.specs.declared.ends.StopCause.TheVariants as stop
use Rattle.script_runs.specs.declared.ends.TryEnd.{TryEnd}
use Rattle.script_runs.specs.declared.ends.TryEnd.TheVariants as end
use Rattle.script_runs.specs.Tries.{Try, IsTry}

-- ---- tries

-- whether the transaction is to be tried again: it was aborted for another cause than that its session asked for it
abbrev pub is_to_retry : TryEnd → Bool
is_to_retry end.Acknowledged = false
is_to_retry end.Empty = false
is_to_retry end.Asked = false
is_to_retry (end.Aborted Asked) = false
is_to_retry (end.Aborted (Died older)) = true
is_to_retry (end.Aborted (Predecessor tx)) = true
is_to_retry (end.Aborted (NoVote shard why)) = true
is_to_retry (end.Aborted (Restarted shard seen now)) = true
is_to_retry (end.Stopped cause) = false

-- what stopped the session, if anything did
abbrev pub stopped_by : TryEnd → Option StopCause
stopped_by end.Acknowledged = None
stopped_by end.Empty = None
stopped_by end.Asked = None
stopped_by (end.Aborted cause) = None
stopped_by (end.Stopped cause) = Some cause

-- whether a further try may follow the n-th, of at most so many; without a number, always
abbrev pub has_left : Option ℕ → ℕ → Bool
has_left None n = true
has_left (Some most) n = nat_lt n most

-- what may stop a session between two tries: a shard was found down, or the beginning of the next one was worn
abbrev pub stops_between : StopCause → Bool
stops_between (stop.Down n) = true
stops_between (stop.Unsettled n) = false
stops_between (stop.Worn at) = true
stops_between stop.Memory = false

-- tries from the n-th on, and what stopped the session, if anything did: a further one follows exactly where it is to be tried again and tries are left,
-- unless the session was stopped before it
pub data InTries (most : Option ℕ) : ℕ → List Try → Option StopCause → Type 0 where
  last : (n : ℕ) (t : Try) → is_to_retry t.end ≡ false → InTries most n (t ∷ []) (stopped_by t.end)
  none_left : (n : ℕ) (t : Try) → is_to_retry t.end ≡ true → has_left most n ≡ false → InTries most n (t ∷ []) None
  stopped_between :
      (n : ℕ) (t : Try) (cause : StopCause) → stops_between cause ≡ true → is_to_retry t.end ≡ true → has_left most n ≡ true
      → InTries most n (t ∷ []) (Some cause)
  further :
      (n : ℕ) (t : Try) (ts : List Try) (cause : Option StopCause) → is_to_retry t.end ≡ true → has_left most n ≡ true → InTries most (suc n) ts cause
      → InTries most n (t ∷ ts) cause

-- ---- transactions

-- a transaction of a script as it went: its birth, and its tries
pub record Transaction : Type 0 where
  pub body : Body
  pub birth : Birth
  pub tries : List Try

-- the try bears the run's and the walker's number
pub record IsNamed (run walker : ℕ) (t : Try) : Type 0 where
  pub run_is : (t.tx).run ≡ run
  pub session_is : (t.tx).session ≡ walker

pub record IsTransaction (splits : List ℕ) (run walker : ℕ) (most : Option ℕ) (tr : Transaction) (cause : Option StopCause) : Type 0 where
  pub born : (tr.birth).session ≡ walker
  pub named : AllByRecursion (IsNamed run walker) tr.tries
  pub each : AllByRecursion (IsTry splits tr.body tr.birth) tr.tries
  pub in_tries : InTries most 1 tr.tries cause

-- ---- a session

-- the transactions of a script from some one on, until one of them is stopped, or can't begin, or all are done
pub data AreTransactions (splits : List ℕ) (run walker : ℕ) (most : Option ℕ) : List Body → List Transaction → Option StopCause → Type 0 where
  all_done : AreTransactions splits run walker most [] [] None
  not_begun : (body : Body) (bodies : List Body) (at : ℕ) → AreTransactions splits run walker most (body ∷ bodies) [] (Some (stop.Worn at))
  stopped :
      (tr : Transaction) (bodies : List Body) (cause : StopCause) → IsTransaction splits run walker most tr (Some cause)
      → AreTransactions splits run walker most (tr.body ∷ bodies) (tr ∷ []) (Some cause)
  done :
      (tr : Transaction) (bodies : List Body) (trs : List Transaction) (cause : Option StopCause) → IsTransaction splits run walker most tr None
      → AreTransactions splits run walker most bodies trs cause → AreTransactions splits run walker most (tr.body ∷ bodies) (tr ∷ trs) cause

-- their tries, one after another, and the entries of these
abbrev pub tries_of : List Transaction → List Try
tries_of [] = []
tries_of (tr ∷ trs) = tr.tries ++ tries_of trs

abbrev pub entries_of : List Try → History
entries_of [] = []
entries_of (t ∷ ts) = t.entries ++ entries_of ts

-- the entries are those of a session of this script, in its run and with its walker's number: its transactions in order, each in its tries. The
-- stamps of their births rise, and so do the serials of their tries
pub record FollowsScript (splits : List ℕ) (run walker : ℕ) (most : Option ℕ) (bodies : List Body) (cause : Option StopCause) (es : History) : Type 0 where
  pub transactions : List Transaction
  pub in_order : AreTransactions splits run walker most bodies transactions cause
  pub entries_are : es ≡ entries_of (tries_of transactions)
  pub births_rise : numbers_rise (map (λ tr. (tr.birth).stamp) transactions) ≡ true
  pub serials_rise : numbers_rise (map (λ t. (t.tx).serial) (tries_of transactions)) ≡ true

-- those of a walker's entries that only sessions make
abbrev pub session_entries : History → History
session_entries es = filter (λ e. is_of_session (e.1).event) es
