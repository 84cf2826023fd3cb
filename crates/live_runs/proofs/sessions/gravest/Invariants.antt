use Rattle.std.proofs.Common.{◌≡◌, ◌<◌, ℕ, get_or, Err}
use Rattle.std.specs.Prelude.{IfErr}
use Rattle.command_line.specs.Running.{IsOk}
use Rattle.live_runs.proofs.sessions.gravest.Given as goal

abbrev pub invariant-loop-place : goal.invariant-loop-place
invariant-loop-place g l = record {
  one : IfErr l.end (λ cause. (k : ℕ) × (k < l.place-index) × ((d : _) → (get_or l.places k d).ended ≡ Err cause));
  fine : IsOk l.end → (k : ℕ) (d : _) → k < l.place-index → IsOk (get_or l.places k d).ended;
}
