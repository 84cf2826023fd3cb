-- The block of a text: a byte that says how many follow, and these.
use Rattle.std.specs.Prelude.{◌≡◌, ◌≤◌, ℕ, List, [], ◌∷◌, length}

abbrev pub IsCounted : List ℕ → Type 0
IsCounted [] = ⊥
IsCounted (count ∷ bytes) = (count ≡ length bytes) × (count ≤ 200)
