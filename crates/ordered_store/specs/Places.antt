-- Places in a list of records that is in order.
use Rattle.std.specs.Prelude.{◌≡◌, ℕ, ◌<◌, ◌≤◌, nat_lt, length, Option, slice_index_or}
use Rattle.std.specs.List.{prefix_len}
use Rattle.clv_base.specs.declared.values.Value.{Value as ValueType}
use Rattle.clv_base.specs.Needs.{Records, found_at}
use Rattle.clv_base.specs.declared.modes.Found.TheVariants.{Absent}

-- how many records lie below the key
abbrev pub count_below : ℕ → Records → ℕ
count_below k rs = prefix_len (λ r. nat_lt r.0 k) rs

-- the record of the key is the one at i
pub record StandsAt (k : ℕ) (rs : Records) (i : ℕ) : Type 0 where
  pub place : i ≡ count_below k rs
  pub within : i < length rs
  pub key : (d : ℕ × Option ValueType) → (slice_index_or rs i d).0 ≡ k

-- the key has no record, and its place is before the one at i
pub record IsGapAt (k : ℕ) (rs : Records) (i : ℕ) : Type 0 where
  pub place : i ≡ count_below k rs
  pub within : i ≤ length rs
  pub absent : found_at k rs ≡ Absent
