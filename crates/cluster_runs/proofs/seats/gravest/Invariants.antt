use Rattle.std.proofs.Common.{◌≡◌, ◌<◌, ℕ, get_or, Err}
use Rattle.std.specs.Prelude.{IfErr}
use Rattle.command_line.specs.Running.{IsOk}
use Rattle.cluster_runs.proofs.seats.gravest.Given as goal

abbrev pub invariant-loop-seat : goal.invariant-loop-seat
invariant-loop-seat g l = record {
  one : IfErr l.end (λ cause. (k : ℕ) × (k < l.seat-index) × ((d : _) → (get_or l.seats k d).ended ≡ Err cause));
  fine : IsOk l.end → (k : ℕ) (d : _) → k < l.seat-index → IsOk (get_or l.seats k d).ended;
}
