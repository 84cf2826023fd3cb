use Rattle.std.proofs.Common.{◌≡◌, ◌<◌, ◌≤◌, ◌+◌, ℕ, suc, true, get_or, take, vec_len}
use Rattle.io_model.specs.Sides.{sides_out, sides_told}
use Rattle.cluster_opening.specs.Undone.{CameBack}
use Rattle.cluster_opening.proofs.giving.give_back_above.Given as goal

abbrev pub invariant-loop-gate : goal.invariant-loop-gate
invariant-loop-gate g l = record {
  front : l.rest.items ≡ take (vec_len l.rest) l.initial.rest.items;
  few : vec_len l.rest ≤ vec_len l.initial.rest;
  done : (n j : ℕ) (d : _) → n + suc j ≡ l.end → vec_len l.rest ≤ j → j < vec_len l.initial.rest
      → CameBack g.M.OverDisks.story g.M.Gate.Gate.faults (get_or l.initial.rest.items j d) (g.H.House.faults l.initial.house n) (g.H.House.faults l.house n) (sides_out (g.H.House.is_out l.house) n) (sides_told (g.H.House.story l.house) n);
  todo : (n : ℕ) → l.end ≤ n + vec_len l.rest → n < l.end → (sides_out (g.H.House.is_out l.house) n ≡ (true, true)) × (g.H.House.faults l.house n ≡ g.H.House.faults l.initial.house n);
  below : (n : ℕ) → n < l.first → (g.H.House.faults l.house n ≡ g.H.House.faults l.initial.house n) × (sides_out (g.H.House.is_out l.house) n ≡ sides_out (g.H.House.is_out l.initial.house) n) × (sides_told (g.H.House.story l.house) n ≡ sides_told (g.H.House.story l.initial.house) n);
  above : (n : ℕ) → l.end ≤ n → (g.H.House.faults l.house n ≡ g.H.House.faults l.initial.house n) × (sides_out (g.H.House.is_out l.house) n ≡ sides_out (g.H.House.is_out l.initial.house) n) × (sides_told (g.H.House.story l.house) n ≡ sides_told (g.H.House.story l.initial.house) n);
}

abbrev pub decreases-loop-gate : goal.decreases-loop-gate
decreases-loop-gate g l = vec_len l.rest
