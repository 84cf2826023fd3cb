use Rattle.std.proofs.Common.{◌≡◌, ◌<◌, ◌≤◌, ◌+◌, ℕ, true, get_or, vec_len, vec_capacity, Some, None}
use Rattle.io_model.specs.Sides.{sides_out, sides_told}
use Rattle.cluster_closing.specs.Closing.{CameFrom}
use Rattle.cluster_closing.proofs.parting.part_all.Given as goal

abbrev pub invariant-loop-i : goal.invariant-loop-i
invariant-loop-i g l = record {
  homes : vec_len l.homes + l.i ≡ l.count;
  same : (j : ℕ) (d : _) → j + l.i < l.count → get_or l.homes.items j d ≡ get_or l.initial.homes.items j d;
  journals : (vec_len l.journals ≡ l.i) × (l.count ≤ vec_capacity l.journals);
  maps : (vec_len l.maps ≡ l.i) × (l.count ≤ vec_capacity l.maps);
  todo : (n : ℕ) → n + l.i < l.count → (sides_out (g.H.House.is_out l.house) n ≡ (true, true)) × (g.H.House.faults l.house n ≡ g.H.House.faults l.initial.house n);
  back : (n : ℕ) (d : _) (gate : _) → n < l.count → l.count ≤ n + l.i → g.M.Machine.gate (get_or l.initial.homes.items n d).machine ≡ Some gate
      → CameFrom (g.M.Gate.Gate.faults gate) (g.M.Gate.Gate.shard gate) (g.M.Gate.Gate.logs gate) (g.H.House.faults l.initial.house n) (g.H.House.faults l.house n) (sides_out (g.H.House.is_out l.house) n) (sides_told (g.H.House.story l.house) n);
  away : (n : ℕ) (d : _) → n < l.count → l.count ≤ n + l.i → g.M.Machine.gate (get_or l.initial.homes.items n d).machine ≡ None → (g.H.House.faults l.house n ≡ g.H.House.faults l.initial.house n) × (sides_out (g.H.House.is_out l.house) n ≡ (true, true));
  others : (n : ℕ) → l.count ≤ n → (g.H.House.faults l.house n ≡ g.H.House.faults l.initial.house n) × (sides_out (g.H.House.is_out l.house) n ≡ sides_out (g.H.House.is_out l.initial.house) n) × (sides_told (g.H.House.story l.house) n ≡ sides_told (g.H.House.story l.initial.house) n);
  kept : (j : ℕ) (d : _) → j < l.i → (m : ℕ) (e : _) → j + m + 1 ≡ l.count → (get_or l.journals.items j d).items ≡ (g.M.Machine.shard (get_or l.initial.homes.items m e).machine).journal;
  stored : (j : ℕ) (d : _) → j < l.i → (m : ℕ) (e : _) → j + m + 1 ≡ l.count → g.M.Store.Store.records (get_or l.maps.items j d) ≡ (g.M.Machine.shard (get_or l.initial.homes.items m e).machine).local.records;
}
