use Rattle.std.proofs.Common.{◌≡◌, ◌<◌, ◌≤◌, ◌+◌, ℕ, get_or, All, vec_len, vec_capacity}
use Rattle.machine_laws.specs.Notes.{notes_of}
use Rattle.machine_laws.specs.Sound.{IsSound}
use Rattle.cluster_closing.specs.Ending.{ClosedAt}
use Rattle.cluster_closing.proofs.lock_ends.close_all.Given as goal

abbrev pub invariant-loop-i : goal.invariant-loop-i
invariant-loop-i g l = record {
  locks : vec_len l.locks + l._i ≡ l.count;
  same : (j : ℕ) (d : _) → j + l._i < l.count → get_or l.locks.items j d ≡ get_or l.initial.locks.items j d;
  rooms : vec_len l.rooms + l._i ≡ l.count;
  room : All (λ r. (vec_len r ≡ 0) × (vec_len l.initial.walkers ≤ vec_capacity r)) l.rooms.items;
  homes : vec_len l.homes ≡ l._i;
  wide : l.count ≤ vec_capacity l.homes;
  walkers : vec_len l.walkers ≡ vec_len l.initial.walkers;
  numbers : (k : ℕ) (d : _) → k < vec_len l.walkers → (get_or l.walkers.items k d).number ≡ (get_or l.initial.walkers.items k d).number;
  passes : (k : ℕ) (d : _) (m : ℕ) (o : _) → k < vec_len l.walkers → m + l._i < l.count → get_or (get_or l.walkers.items k d).passes.items m o ≡ get_or (get_or l.initial.walkers.items k d).passes.items m o;
  done : (j : ℕ) (d : _) → j < l._i → (m : ℕ) → j + m + 1 ≡ l.count → ClosedAt l.initial.walkers.items m (get_or l.homes.items j d).origin (notes_of (g.M.Machine.shard (get_or l.homes.items j d).machine).journal (get_or l.homes.items j d).marks.items);
  sound : (j : ℕ) (d : _) → j < l._i → IsSound g.M.Gate.Gate.is_shut g.M.Gate.Gate.faults g.M.Gate.Gate.shard g.M.Gate.Gate.logs (get_or l.homes.items j d).origin (get_or l.homes.items j d).marks.items (vec_capacity (get_or l.homes.items j d).marks) (g.M.Machine.shard (get_or l.homes.items j d).machine) (g.M.Machine.gate (get_or l.homes.items j d).machine);
}
