-- A first session whose first transaction runs before all that other sessions do.
use Rattle.std.specs.Prelude.{◌≡◌, ◌≢◌, ℕ, ◌<◌, ◌≤◌, List, ◌++◌, take, length, slice_get, Option, Some}
use Rattle.std.specs.List.{AllByRecursion}
use Rattle.clv_base.specs.Journals.{History, own}
use Rattle.cluster_turns.specs.declared.shards.Shards.{Shards}
use Rattle.cluster_turns.specs.declared.shards.Walker.{Walker}
use Rattle.cluster_turns.specs.Walkers.{kept}
use Rattle.script_lang.specs.Bodies.{Body}
use Rattle.script_runs.specs.declared.ends.StopCause.{StopCause}
use Rattle.script_runs.specs.Sessions.{FollowsScript, session_entries}

-- the first ones of walker 1's entries that only sessions make are those of its first transaction; and each such entry of another walker has a stamp past all
-- of theirs, so that on each shard it stands behind them
pub record RanAlone (splits : List ℕ) (run : ℕ) (most : Option ℕ) (bodies : List Body) (h : History) : Type 0 where
  pub cause : Option StopCause
  pub first : History
  pub rest : History
  pub entries_are : session_entries (own 1 h) ≡ first ++ rest
  pub follows : FollowsScript splits run 1 most (take 1 bodies) cause first
  pub before : (w : ℕ) → w ≢ 1 → AllByRecursion (λ f. AllByRecursion (λ e. (e.1).stamp < (f.1).stamp) first) (session_entries (own w h))

-- of these entries the first ones are those of the first transaction, with stamps up to the clock
pub record BeginsWith (splits : List ℕ) (run : ℕ) (most : Option ℕ) (bodies : List Body) (clock : ℕ) (es : History) : Type 0 where
  pub cause : Option StopCause
  pub first : History
  pub rest : History
  pub entries_are : es ≡ first ++ rest
  pub follows : FollowsScript splits run 1 most (take 1 bodies) cause first
  pub early : AllByRecursion (λ e. (e.1).stamp ≤ clock) first

module _ {M S G : Type 0} where
  -- there is a clock up to which the walker of session 0 did its first transaction, and past which those of the others did all. A walker
  -- is found by the place of its session
  pub record AreAlone (sh : Shards M S G) (most : Option ℕ) (script : List (List Body)) {X : Type 0} (walker_at : ℕ → X → Walker M S G) : Type 0 where
    pub clock : ℕ
    pub first : (bodies : List Body) (d : X) → slice_get script 0 ≡ Some bodies → BeginsWith sh.splits sh.run most bodies clock (session_entries (kept (walker_at 0 d).passes.items))
    pub others : (k : ℕ) (d : X) → 0 < k → k < length script → AllByRecursion (λ e. clock < (e.1).stamp) (session_entries (kept (walker_at k d).passes.items))
