-- What a history has of the sessions of a script.
use Rattle.std.specs.Prelude.{◌≡◌, ◌⊎◌, ℕ, suc, ◌<◌, List, [], length, Option, Some, slice_get}
use Rattle.clv_base.specs.Journals.{History}
use Rattle.script_lang.specs.Bodies.{Body}
use Rattle.script_runs.specs.declared.ends.StopCause.{StopCause}
use Rattle.script_runs.specs.Ran.{Rise, stamps, serials}
use Rattle.script_runs.specs.Sessions.{FollowsScript, tries_of, session_entries}

-- how far a session of the script came: it wasn't begun; or it was, and was stopped for this cause, or went through
pub data Went : Type 0 where
  NotBegun : Went
  Begun : (cause : Option StopCause) → Went

-- the entries are those of a session of these bodies from its beginning: its births lie past stamp 0, and its tries have the serials 1, 2, .., which are the numbers
-- that rise from there up to how many there are
pub record HasFollowed (splits : List ℕ) (run walker : ℕ) (most : Option ℕ) (bodies : List Body) (cause : Option StopCause) (es : History) : Type 0 where
  pub follows : FollowsScript splits run walker most bodies cause es
  pub clock : ℕ
  pub births : Rise 0 (stamps follows.transactions) clock
  pub counted : Rise 0 (serials (tries_of follows.transactions)) (length (tries_of follows.transactions))

-- of these entries of its walker, those that only sessions make are those of its transactions in order, each in its tries; or there is none
abbrev pub SessionWent : List ℕ → ℕ → ℕ → Option ℕ → List Body → Went → History → Type 0
SessionWent splits run walker most bodies NotBegun es = session_entries es ≡ []
SessionWent splits run walker most bodies (Begun cause) es = HasFollowed splits run walker most bodies cause (session_entries es)

-- the first session of the script is of walker 1, and so on; walkers that are no session's make no entry that only sessions make
pub record SessionsWent (splits : List ℕ) (run : ℕ) (most : Option ℕ) (script : List (List Body)) (went : ℕ → Went) (own_of : ℕ → History) : Type 0 where
  pub each : (k : ℕ) (bodies : List Body) → slice_get script k ≡ Some bodies → SessionWent splits run (suc k) most bodies (went k) (own_of (suc k))
  pub beyond : (walker : ℕ) → length script < walker → session_entries (own_of walker) ≡ []

-- and neither does walker 0
pub record SessionsFollow (splits : List ℕ) (run : ℕ) (most : Option ℕ) (script : List (List Body)) (went : ℕ → Went) (own_of : ℕ → History) : Type 0 where
  pub each : (k : ℕ) (bodies : List Body) → slice_get script k ≡ Some bodies → SessionWent splits run (suc k) most bodies (went k) (own_of (suc k))
  pub others : (walker : ℕ) → (walker ≡ 0) ⊎ (length script < walker) → session_entries (own_of walker) ≡ []
