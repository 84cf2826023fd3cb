-- The savepoints of a transaction.
use Rattle.std.specs.Prelude.{ℕ, zero, suc, ◌<◌, ◌≤◌, cond, ◌==◌, nat_le, List, [], ◌∷◌, ◌++◌, Option, Some, None}
use Rattle.std.specs.List.{filter}

-- how many were kept so far, and those that stand, the oldest first: each with its number, and how many acts there were before it
pub record Savepoints : Type 0 where
  pub kept : ℕ
  pub standing : List (ℕ × ℕ)

abbrev pub no_savepoints : Savepoints
no_savepoints = record { kept = 0; standing = [] }

-- one more, with the next number
abbrev pub keep : ℕ → Savepoints → Savepoints
keep upto s = record { kept = suc s.kept; standing = s.standing ++ (suc s.kept, upto) ∷ [] }

-- where one leads, if it stands
abbrev pub upto_of : ℕ → List (ℕ × ℕ) → Option ℕ
upto_of i [] = None
upto_of i (s ∷ ss) = cond (s.0 == i) (Some s.1) (upto_of i ss)

-- those later than this one are forgotten
abbrev pub back_to : ℕ → Savepoints → Savepoints
back_to i s = record { kept = s.kept; standing = filter (λ p. nat_le p.0 i) s.standing }

-- the numbers of those that stand rise from above lo up to hi
abbrev pub AreNumbered : ℕ → List (ℕ × ℕ) → ℕ → Type 0
AreNumbered lo [] hi = lo ≤ hi
AreNumbered lo (s ∷ ss) hi = (lo < s.0) × AreNumbered s.0 ss hi

-- how many of these, from the oldest one on, have numbers up to this one
abbrev pub count_up_to : ℕ → List (ℕ × ℕ) → ℕ
count_up_to i [] = zero
count_up_to i (s ∷ ss) = cond (nat_le s.0 i) (suc (count_up_to i ss)) zero
