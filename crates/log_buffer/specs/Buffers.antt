-- A buffer: the records with its three fronts, and for how many records more room is reserved.
use Rattle.std.specs.Prelude.{ℕ, suc, ◌+◌, ◌-◌, ◌≤◌, true, false, nat_lt, List, [], ◌∷◌, length, drop}

pub record Buffer (R : Type 0) : Type 0 where
  pub records : List R
  pub durable : ℕ
  pub taken : ℕ
  pub room : ℕ

-- the fronts stand in their order
pub record IsInOrder {R : Type 0} (b : Buffer R) : Type 0 where
  pub durable_first : b.durable ≤ b.taken
  pub end_last : b.taken ≤ length b.records

-- how many records from the front on fit the bytes that are left
abbrev pub fitting_by : {R : Type 0} → (R → ℕ) → ℕ → List R → ℕ
fitting_by size room [] = 0
fitting_by size room (r ∷ rs) = elim (nat_lt room (size r)) [ true ↦ 0 | false ↦ suc (fitting_by size (room - size r) rs) ]

-- how many bytes records have together
abbrev pub sizes : {R : Type 0} → (R → ℕ) → List R → ℕ
sizes size [] = 0
sizes size (r ∷ rs) = size r + sizes size rs

-- how many of the next records fit a batch
abbrev pub next_count : {R : Type 0} → (R → ℕ) → ℕ → Buffer R → ℕ
next_count size limit b = fitting_by size limit (drop b.taken b.records)
