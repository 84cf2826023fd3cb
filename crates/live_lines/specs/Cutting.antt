-- A line whose bytes come one after another.
use Rattle.std.specs.Prelude.{ℕ, Bool, false, true, nat_lt, cond, List, [], ◌∷◌, ◌++◌, length, Option, Some, None}

-- a line has at most so many bytes
abbrev pub most_bytes : ℕ
most_bytes = 4096

-- what has come of a line: its first bytes, and whether there were too many
pub record Begun : Type 0 where
  pub front : List ℕ
  pub is_cut : Bool

abbrev pub none_begun : Begun
none_begun = record { front = []; is_cut = false }

-- it goes on with a byte
abbrev pub with_byte : Begun → ℕ → Begun
with_byte begun b = cond (nat_lt (length begun.front) most_bytes) (record { front = begun.front ++ b ∷ []; is_cut = begun.is_cut }) (record { front = begun.front; is_cut = true })

-- the line, unless there were too many
abbrev pub line_in : Begun → Option (List ℕ)
line_in begun = cond begun.is_cut None (Some begun.front)
