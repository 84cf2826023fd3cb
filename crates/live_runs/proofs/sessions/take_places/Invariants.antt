use Rattle.std.proofs.Common.{◌≡◌, ◌<◌, ◌≤◌, ◌+◌, ℕ, suc, Ok, get_or, vec_len, vec_capacity}
use Rattle.live_runs.specs.Walked.{IsPlaced}
use Rattle.live_runs.proofs.sessions.take_places.Given as goal

abbrev pub invariant-loop : goal.invariant-loop
invariant-loop g l = record {
  walkers : vec_len l.walkers + l.counter ≡ l.sessions + 1;
  wide_walkers : vec_capacity l.walkers ≡ vec_capacity l.fn.walkers;
  same : (j : ℕ) (d : _) → j + l.counter < l.sessions + 1 → get_or l.walkers.items j d ≡ get_or l.fn.walkers.items j d;
  places : vec_len l.places ≡ l.counter;
  wide : l.sessions ≤ vec_capacity l.places;
  placed : (j : ℕ) (d : _) → j < l.counter → (k : ℕ) → j + suc k ≡ l.sessions → IsPlaced l.shards l.fn.clock k (get_or l.places.items j d).session.session.shards.now (get_or l.places.items j d).session.session.walker (get_or l.places.items j d).session.session.progress (get_or l.places.items j d).session.session.saves.items (get_or l.places.items j d).session.saves;
  fine : (j : ℕ) (d : _) → j < l.counter → (get_or l.places.items j d).ended ≡ Ok (tt {0});
}
