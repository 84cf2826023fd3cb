-- How a try that is given up before its request lets go of its parts.
use Rattle.std.specs.Prelude.{◌≡◌, ◌⊎◌, ⊤, ℕ, ◌≤◌, ◌^◌, ◌-◌, true, List, ◌++◌, None}
use Rattle.std.specs.List.{AllByRecursion}
use Rattle.clv_base.specs.Journals.{History}
use Rattle.script_runs.specs.declared.ends.StopCause.TheVariants as stop
use Rattle.script_runs.specs.declared.ends.TryEnd.{TryEnd}
use Rattle.script_runs.specs.declared.ends.TryEnd.TheVariants as end
use Rattle.script_runs.specs.Tries.{Try, AreDrops, is_touched}
use Rattle.script_runs.specs.Seen.{Misses}

-- behind its other entries stand its drops: one on each shard that those touched, but where a drop came to nothing behind them
pub record HasDropped (missed : Misses) (t : Try) : Type 0 where
  pub before : History
  pub drops : History
  pub entries_are : t.entries ≡ before ++ drops
  pub only : AreDrops t.tx before None drops
  pub each : (n : ℕ) → is_touched before n ≡ true → (is_touched drops n ≡ true) ⊎ ((earlier : History) × missed t.tx n (earlier ++ before))

-- by how it ended: the line `abort` drops it, and so does a shard that was down before its request, unless stamps were wanting, which a clock at its end tells
abbrev pub LetsGo : Misses → ℕ → Try → TryEnd → Type 0
LetsGo missed clock t end.Asked = HasDropped missed t
LetsGo missed clock t (end.Stopped (stop.Down n)) = HasDropped missed t ⊎ (2 ^ 48 - 1 ≤ clock)
LetsGo missed clock t (end.Stopped (stop.Unsettled n)) = ⊤
LetsGo missed clock t (end.Stopped (stop.Worn at)) = ⊤
LetsGo missed clock t (end.Stopped stop.Memory) = ⊤
LetsGo missed clock t end.Acknowledged = ⊤
LetsGo missed clock t end.Empty = ⊤
LetsGo missed clock t (end.Aborted cause) = ⊤

abbrev pub AllLetGo : Misses → ℕ → List Try → Type 0
AllLetGo missed clock ts = AllByRecursion (λ t. LetsGo missed clock t t.end) ts
