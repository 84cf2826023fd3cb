use Rattle.std.proofs.Common.{◌≡◌, ◌<◌, ◌≤◌, ℕ, true, get_or, take, vec_len}
use Rattle.io_model.specs.Sides.{sides_out, sides_told}
use Rattle.cluster_opening.specs.Houses.{CameBack}
use Rattle.cluster_opening.proofs.disks_giving.give_back_all.Given as goal

abbrev pub invariant-loop-gate : goal.invariant-loop-gate
invariant-loop-gate g l = record {
  front : l.gates.items ≡ take (vec_len l.gates) l.initial.gates.items;
  few : vec_len l.gates ≤ vec_len l.initial.gates;
  done : (n : ℕ) (d : _) → vec_len l.gates ≤ n → n < vec_len l.initial.gates
      → CameBack (get_or l.initial.gates.items n d) (g.H.House.faults l.initial.house n) (g.H.House.faults l.house n) (sides_out (g.H.House.is_out l.house) n) (sides_told (g.H.House.story l.house) n);
  todo : (n : ℕ) → n < vec_len l.gates → (sides_out (g.H.House.is_out l.house) n ≡ (true, true)) × (g.H.House.faults l.house n ≡ g.H.House.faults l.initial.house n);
  others : (n : ℕ) → vec_len l.initial.gates ≤ n → (g.H.House.faults l.house n ≡ g.H.House.faults l.initial.house n) × (sides_out (g.H.House.is_out l.house) n ≡ sides_out (g.H.House.is_out l.initial.house) n) × (sides_told (g.H.House.story l.house) n ≡ sides_told (g.H.House.story l.initial.house) n);
}

abbrev pub decreases-loop-gate : goal.decreases-loop-gate
decreases-loop-gate g l = vec_len l.gates
