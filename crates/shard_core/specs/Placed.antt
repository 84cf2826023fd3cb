-- First places.
use Rattle.std.specs.Prelude.{ℕ, Bool, cond, Option, Some, None}

-- the first place, if there is one, else the second
abbrev pub first_of : Option ℕ → Option ℕ → Option ℕ
first_of (Some a) b = Some a
first_of None b = b

-- the place where it passes
abbrev pub place_if : Bool → ℕ → Option ℕ
place_if b n = cond b (Some n) None
