use Rattle.std.proofs.Common.{◌≡◌, ◌<◌, ◌≤◌, ℕ, length, get_or, vec_len}
use Rattle.cluster_runs.specs.Drained.{HaveLooked, QuietAt}
use Rattle.cluster_runs.proofs.draining.all_see_quiet.Given as goal

abbrev pub invariant-loop-place : goal.invariant-loop-place
invariant-loop-place g l = record {
  len : vec_len l.walkers ≡ vec_len l.initial.walkers;
  looked : HaveLooked l.shards l.initial.walkers.items l.walkers.items;
  quiet : (k n : ℕ) (d : _) → k < l.place → n < length l.shards.locks.items → QuietAt n (get_or l.walkers.items k d).passes.items;
  left : (k : ℕ) (d : _) → l.place ≤ k → get_or l.walkers.items k d ≡ get_or l.initial.walkers.items k d;
}
