-- What the two sides of a shard tell together.
use Rattle.std.specs.Prelude.{ℕ, ◌+◌, Option}
use Rattle.io_model.specs.Story.{Story}
use Rattle.io_model.specs.Sides.{Stories, both_told}
use Rattle.io_model.specs.declared.sides.Sides.{Sides}

-- the stories of both, where both are told
abbrev pub stories_of : {D : Type 0} → (D → Option Story) → Sides D → Option Stories
stories_of story sides = both_told (story sides.side0) (story sides.side1)

-- the sum of their counts of faults
abbrev pub faults_of : {D : Type 0} → (D → ℕ) → Sides D → ℕ
faults_of faults sides = faults sides.side0 + faults sides.side1
