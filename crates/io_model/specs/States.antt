-- What is seen of streams in memory.
use Rattle.std.specs.Prelude.{ℕ, ◌+◌, ◌-◌, ◌^◌, min, List, Bool, ◌==◌}
use Rattle.std.specs.List.{list_any}

-- a source in memory: the bytes left, the greatest piece, the calls that fail, how many were made, and its faults
pub record SourceState : Type 0 where
  pub left : List ℕ
  pub piece : ℕ
  pub failing : List ℕ
  pub made : ℕ
  pub faults : ℕ

-- a sink in memory: the bytes taken and the room for them, the greatest piece, the calls that fail, how many were made, and its faults
pub record SinkState : Type 0 where
  pub taken : List ℕ
  pub room : ℕ
  pub piece : ℕ
  pub failing : List ℕ
  pub made : ℕ
  pub faults : ℕ

-- the number of the next call; the count stands still at its end
abbrev pub next_number : ℕ → ℕ
next_number made = min (made + 1) (2 ^ 64 - 1)

-- whether the next call is told to fail
abbrev pub is_told : List ℕ → ℕ → Bool
is_told failing made = list_any (λ n. n == next_number made) failing
