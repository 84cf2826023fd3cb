use Rattle.std.proofs.Common.{◌≡◌, ◌<◌, ◌≤◌, ℕ, true, get_or, take, vec_len}
use Rattle.io_model.specs.Sides.{sides_out, sides_told}
use Rattle.machine_calls.specs.Disks.{stories_of, faults_of}
use Rattle.cluster_closing.specs.Ends.{shard_at, IsNotAmong}
use Rattle.cluster_closing.specs.Closing.{Returned}
use Rattle.cluster_closing.proofs.returning.give_back_held.Given as goal

abbrev pub invariant-loop-held : goal.invariant-loop-held
invariant-loop-held g l = record {
  front : l.fetched.items ≡ take (vec_len l.fetched) l.initial.fetched.items;
  few : vec_len l.fetched ≤ vec_len l.initial.fetched;
  done : (j : ℕ) (f : _) → vec_len l.fetched ≤ j → j < vec_len l.initial.fetched
      → Returned (stories_of g.H.Disk.Disk.story) (faults_of g.H.Disk.Disk.faults) (get_or l.initial.fetched.items j f).disk (g.H.House.faults l.initial.house (shard_at l.initial.fetched.items j f)) (g.H.House.faults l.house (shard_at l.initial.fetched.items j f))
      (sides_out (g.H.House.is_out l.house) (shard_at l.initial.fetched.items j f)) (sides_told (g.H.House.story l.house) (shard_at l.initial.fetched.items j f));
  todo : (j : ℕ) (f : _) → j < vec_len l.fetched → (sides_out (g.H.House.is_out l.house) (shard_at l.initial.fetched.items j f) ≡ (true, true)) × (g.H.House.faults l.house (shard_at l.initial.fetched.items j f) ≡ g.H.House.faults l.initial.house (shard_at l.initial.fetched.items j f));
  others : (n : ℕ) → IsNotAmong n l.initial.fetched.items
      → (g.H.House.faults l.house n ≡ g.H.House.faults l.initial.house n) × (sides_out (g.H.House.is_out l.house) n ≡ sides_out (g.H.House.is_out l.initial.house) n) × (sides_told (g.H.House.story l.house) n ≡ sides_told (g.H.House.story l.initial.house) n);
}

abbrev pub decreases-loop-held : goal.decreases-loop-held
decreases-loop-held g l = vec_len l.fetched
