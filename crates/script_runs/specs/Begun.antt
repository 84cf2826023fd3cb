-- A session that ran its first transaction.
use Rattle.std.specs.Prelude.{◌≡◌, ℕ, List, ◌++◌, take, Option}
use Rattle.script_lang.specs.Bodies.{Body}
use Rattle.script_runs.specs.declared.ends.StopCause.{StopCause}
use Rattle.script_runs.specs.Seen.{Seen, Misses}
use Rattle.script_runs.specs.Ran.{Follows}

-- the first transaction was run, if there is one, and the others are left
pub record HasBegun (missed : Misses) (whole left : List Body) (most : Option ℕ) (cause : Option StopCause) (u v : Seen) : Type 0 where
  pub front : List Body
  pub whole_is : whole ≡ front ++ left
  pub front_is : front ≡ take 1 whole
  pub follows : Follows missed front most cause u v
