-- The parts of a scan, which are one operation, and of a going back, which are one.
use Rattle.std.specs.Prelude.{ℕ, Bool, false, cond, ◌==◌, List, [], ◌∷◌, ◌++◌, Option, Some, None}
use Rattle.clv_base.specs.declared.values.Value.{Value as ValueType}
use Rattle.clv_base.specs.declared.ops.Op.TheVariants.{Scan}
use Rattle.clv_base.specs.declared.ops.Answer.{Answer}
use Rattle.clv_base.specs.declared.ops.Answer.TheVariants.{Value, Pairs, Added}
use Rattle.session_books.specs.Done.{Done, Did, WentBack}
use Rattle.session_books.specs.declared.told.Told.{Told}

-- the pairs of an answer
abbrev pub pairs_of : Answer → List (ℕ × ValueType)
pairs_of (Value v) = []
pairs_of (Pairs ps) = ps
pairs_of (Added found) = []

-- the parts of one operation: those of its number that follow it
abbrev pub parts_of : ℕ → List Told → List Told
parts_of n [] = []
parts_of n (t ∷ ts) = cond (n == t.nth) (t ∷ parts_of n ts) []

-- those of a scan go up to the last one's upper bound, and have the pairs of all
abbrev pub upper : ℕ → Done → ℕ
upper hi (Did (Scan low high) a) = high
upper hi _ = hi

abbrev pub upper_of : ℕ → List Told → ℕ
upper_of hi [] = hi
upper_of hi (t ∷ ts) = upper_of (upper hi t.done) ts

abbrev pub pairs_by : Done → List (ℕ × ValueType)
pairs_by (Did op a) = pairs_of a
pairs_by (WentBack upto) = []

abbrev pub all_pairs : List Told → List (ℕ × ValueType)
all_pairs [] = []
all_pairs (t ∷ ts) = pairs_by t.done ++ all_pairs ts

-- whether it has the number of the one before, if there is one
abbrev pub goes_on : Option ℕ → ℕ → Bool
goes_on None n = false
goes_on (Some m) n = m == n
