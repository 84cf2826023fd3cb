-- Parts of a session, one after another.
use Rattle.std.specs.Prelude.{List, ◌++◌, Option, Some, None, ℕ}
use Rattle.script_lang.specs.Bodies.{Body}
use Rattle.script_runs.specs.declared.ends.StopCause.{StopCause}
use Rattle.script_runs.specs.Seen.{Seen, Misses, Keeps}
use Rattle.script_runs.specs.Ran.{Follows}

-- some transactions and then others are all of them
abbrev pub SessionsGoOn : {S : Type 0} → (S → Misses) → Type 0
SessionsGoOn {S} missed =
    (old new : S) (front behind : List Body) (most : Option ℕ) (cause : Option StopCause) (u v w : Seen)
    → Keeps (missed old) (missed new) → Follows (missed old) front most None u v → Follows (missed new) behind most cause v w → Follows (missed new) (front ++ behind) most cause u w

-- a session that was stopped is stopped before all that was to follow
abbrev pub SessionsStop : {S : Type 0} → (S → Misses) → Type 0
SessionsStop {S} missed =
    (old : S) (front behind : List Body) (most : Option ℕ) (cause : StopCause) (u v : Seen)
    → Follows (missed old) front most (Some cause) u v → Follows (missed old) (front ++ behind) most (Some cause) u v
