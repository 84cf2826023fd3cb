-- The place of a first COMMIT.
use Rattle.std.specs.Prelude.{ℕ, Option, Some, None}

-- the place, if there is one, else this
abbrev pub place_or : Option ℕ → ℕ → Option ℕ
place_or None n = Some n
place_or (Some k) n = Some k
