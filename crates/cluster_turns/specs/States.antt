-- The state of a session by the entries of its walker, and how its next transaction goes on from there.
use Rattle.std.specs.Prelude.{◌≡◌, ◌≢◌, ◌⊎◌, ℕ, ◌<◌, ◌==◌, true, false, List, [], ◌∷◌, ◌++◌, Option, Some, None, is_some}
use Rattle.std.specs.List.{AllByRecursion}
use Rattle.std.specs.Map.{lookup}
use Rattle.clv_base.specs.declared.names.Birth.{Birth}
use Rattle.clv_base.specs.declared.ops.Op.{Op}
use Rattle.clv_base.specs.declared.events.Event.{Event}
use Rattle.clv_base.specs.declared.events.Event.TheVariants.{Op as OpEvent}
use Rattle.clv_base.specs.declared.events.Outcome.{Outcome}
use Rattle.clv_base.specs.declared.events.Entry.{Entry}
use Rattle.clv_base.specs.Orders.{tx_same}
use Rattle.clv_base.specs.Journals.{History}
use Rattle.clv_base.specs.Shards.{shard_count}
use Rattle.clv_base.specs.Sessions.{SessionState, Standing, no_session, begins, begun, is_touching, op_in_session, session_after, is_session, is_of_session}
use Rattle.journal_laws.specs.Offers.{hoped_for, may_make}

-- the session after these entries, from v; none where it does not make them
abbrev pub after_from : List ℕ → Option SessionState → History → Option SessionState
after_from splits v [] = v
after_from splits None (e ∷ es) = None
after_from splits (Some t) (e ∷ es) = after_from splits (session_after splits e.0 t (e.1).event (e.1).outcome) es

-- and from its beginning
abbrev pub session_of : List ℕ → ℕ → ℕ → History → Option SessionState
session_of splits run walker es = after_from splits (Some (no_session run walker)) es

-- p is a new transaction of a session in the state t, without an entry so far
abbrev pub IsNext : SessionState → SessionState → Type 0
IsNext t p = (birth : Birth) × (p ≡ begun t p.tx birth) × (tx_same p.tx t.tx ≡ false) × (begins t p.tx birth ≡ true)

-- the session goes on by p: its last transaction as it stands, or its next one
abbrev pub GoesOnBy : SessionState → SessionState → Type 0
GoesOnBy t p = (p ≡ t) ⊎ IsNext t p

-- these notes are of shards that are touched
abbrev pub AreTouched : List (ℕ × ℕ) → List (ℕ × ℕ) → Type 0
AreTouched touched written = AllByRecursion (λ w. is_some (lookup (◌==◌ w.0) touched) ≡ true) written

-- ---- laws

-- a walker's entries are a session's exactly where they lead to a state
abbrev pub SessionsHaveStates : Type 0
SessionsHaveStates = (splits : List ℕ) (run walker : ℕ) (es : History) → is_session splits run walker es ≡ is_some (session_of splits run walker es)

-- the state goes on by the walker's next entry
abbrev pub StatesGoOn : Type 0
StatesGoOn =
    (splits : List ℕ) (run walker : ℕ) (es : History) (t : SessionState) (e : ℕ × Entry) → session_of splits run walker es ≡ Some t
    → session_of splits run walker (es ++ e ∷ []) ≡ session_after splits e.0 t (e.1).event (e.1).outcome

-- the walker may make an event exactly where the state goes on by it
abbrev pub StatesTellMayMake : Type 0
StatesTellMayMake =
    (splits : List ℕ) (run walker : ℕ) (es : History) (t : SessionState) (n : ℕ) (e : Event) → session_of splits run walker es ≡ Some t
    → may_make splits run walker es n e ≡ is_some (session_after splits n t e (hoped_for e))

-- events that no session makes leave the state as it is
abbrev pub OthersLeaveStates : Type 0
OthersLeaveStates = (splits : List ℕ) (n : ℕ) (t : SessionState) (e : Event) (o : Outcome) → is_of_session e ≡ false → session_after splits n t e o ≡ Some t

-- each transaction bears the run and the walker's number
abbrev pub StatesBearWalkers : Type 0
StatesBearWalkers =
    (splits : List ℕ) (run walker : ℕ) (es : History) (t : SessionState) → session_of splits run walker es ≡ Some t → ((t.tx).run ≡ run) × ((t.tx).session ≡ walker)

-- an operation of the transaction by which the session goes on
abbrev pub OpsGoOn : Type 0
OpsGoOn =
    (splits : List ℕ) (t p : SessionState) (birth : Birth) (n nth : ℕ) (seen : Option ℕ) (op : Op) (o : Outcome) → GoesOnBy t p → is_touching p.phase ≡ true → p.birth ≡ Some birth
    → session_after splits n t (OpEvent p.tx birth nth seen op) o ≡ op_in_session splits n nth seen op o (Some p)

-- what was touched, or isn't going on by operations any more, is the last transaction
abbrev pub TouchedAreLast : Type 0
TouchedAreLast = (t p : SessionState) → GoesOnBy t p → (p.touched ≢ []) ⊎ (is_touching p.phase ≡ false) → p ≡ t

-- each touched shard is one that there is
abbrev pub TouchedAreShards : Type 0
TouchedAreShards =
    (splits : List ℕ) (run walker : ℕ) (es : History) (t : SessionState) → session_of splits run walker es ≡ Some t → AllByRecursion (λ x. x.0 < shard_count splits) t.touched

-- each write that stands is on a touched one
abbrev pub WrittenAreTouched : Type 0
WrittenAreTouched = (splits : List ℕ) (run walker : ℕ) (es : History) (t : SessionState) → session_of splits run walker es ≡ Some t → AreTouched t.touched t.written

-- the home of a request that stands is a shard that there is
abbrev pub HomesAreShards : Type 0
HomesAreShards =
    (splits : List ℕ) (run walker : ℕ) (es : History) (t : SessionState) (home : ℕ) → session_of splits run walker es ≡ Some t → t.phase ≡ Standing home → home < shard_count splits
