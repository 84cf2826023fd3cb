-- What a session of a script is of, from a new walker on.
use Rattle.std.specs.Prelude.{◌≡◌, ℕ, ◌≤◌, IsTrue, List, [], length, Option}
use Rattle.clv_base.specs.declared.names.Point.{Point}
use Rattle.clv_base.specs.Shards.{are_splits}
use Rattle.script_lang.specs.Bodies.{Body}
use Rattle.script_runs.specs.declared.ends.StopCause.{StopCause}
use Rattle.script_runs.specs.Sessions.{FollowsScript, session_entries, tries_of}
use Rattle.script_runs.specs.Seen.{Standing}
use Rattle.script_runs.specs.Ran.{Rise, stamps, serials, FollowsFrom}
use Rattle.script_runs.specs.Dropped.{AllLetGo}
use Rattle.cluster_turns.specs.declared.shards.Shards.{Shards}
use Rattle.cluster_turns.specs.declared.shards.Walker.{Walker}
use Rattle.cluster_turns.specs.Walkers.{kept}
use Rattle.cluster_opening.specs.Made.{IsNewWalker}
use Rattle.session_api.specs.declared.progress.Progress.{Progress}
use Rattle.session_api.specs.declared.progress.Progress.TheVariants.{Idle}
use Rattle.session_api.specs.Grounds.{HasMissed}
use Rattle.session_api.specs.Seeing.{seen_as}
use Rattle.session_api.specs.Standing.{Holds, IsAtRest}

-- a new walker, but for walker 0, is a session's
abbrev pub NewWalkersAreSessions : (M S G : Type 0) → Type 0
NewWalkersAreSessions M S G =
    (sh : Shards M S G) (number first : ℕ) (w : Walker M S G) → IsNewWalker sh number first w → IsTrue (are_splits sh.splits) → 1 ≤ number → number ≤ 64 → Holds sh w Idle

-- each new walker is at rest, and has made nothing so far
abbrev pub NewWalkersRest : (M S G : Type 0) → Type 0
NewWalkersRest M S G = (sh : Shards M S G) (number first : ℕ) (w : Walker M S G) → IsNewWalker sh number first w → IsAtRest sh number w

abbrev pub NewWalkersKeepNone : (M S G : Type 0) → Type 0
NewWalkersKeepNone M S G = (sh : Shards M S G) (number first : ℕ) (w : Walker M S G) → IsNewWalker sh number first w → kept w.passes.items ≡ []

-- a session's walker is at rest, however its last transaction stands
abbrev pub SessionsRest : (M S G : Type 0) → Type 0
SessionsRest M S G = (sh : Shards M S G) (w : Walker M S G) (s : Progress) → Holds sh w s → IsAtRest sh w.number w

-- the entries of a session of a new walker that only sessions make are those of its script, as far as it ran: its births lie past the walker's clock, its tries
-- have the serials from 1 on up to how many there are, and each one that was given up let go of its parts
abbrev pub ScriptsFollow : (M S G : Type 0) → Type 0
ScriptsFollow M S G =
    (sh : Shards M S G) (number first base : ℕ) (w v : Walker M S G) (a b : Point) (s t : Standing) (bodies : List Body) (most : Option ℕ) (cause : Option StopCause) → IsNewWalker sh number first w
    → FollowsFrom base (HasMissed v) bodies most cause (seen_as sh w a s) (seen_as sh v b t) → (v.number ≡ number)
    × ((f : FollowsScript sh.splits sh.run number most bodies cause (session_entries (kept v.passes.items)))
    × Rise first (stamps f.transactions) v.clock × Rise 0 (serials (tries_of f.transactions)) (length (tries_of f.transactions)) × AllLetGo (HasMissed v) v.clock (tries_of f.transactions))
