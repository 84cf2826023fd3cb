-- What calls of a store do, whatever the store keeps its records in.
use Rattle.std.specs.Prelude.{◌==◌, ℕ, Bool, true, false, cond, not, List, [], ◌∷◌, map, Some, None}
use Rattle.std.specs.List.{filter}
use Rattle.clv_base.specs.Needs.{Records, found_at, found_by, is_there, value_at, record_set, lower_anchor, records_between}
use Rattle.clv_base.specs.declared.modes.Found.{Found}
use Rattle.callers.specs.declared.store_calls.StoreCall.{StoreCall}
use Rattle.callers.specs.declared.store_calls.StoreCall.TheVariants.{Get, Set, Hide, Purge, AnchorOf, Range}
use Rattle.callers.specs.declared.store_answers.StoreAnswer.{StoreAnswer}
use Rattle.callers.specs.declared.store_answers.StoreAnswer.TheVariants.{There, Before, Below, Rows}

-- the record at the key becomes a ghost, where there is one
abbrev pub hidden : ℕ → Records → Records
hidden k rs = cond (is_there (found_at k rs)) (record_set k None rs) rs

-- whether it is a ghost
abbrev pub is_ghost_found : Found → Bool
is_ghost_found Found.Ghost = true
is_ghost_found (Found.Live v) = false
is_ghost_found Found.Absent = false

-- the record at the key goes, where it is this
abbrev pub purged_where : Found → ℕ → Records → Records
purged_where Found.Ghost k rs = filter (λ r. not (r.0 == k)) rs
purged_where _ k rs = rs

-- the record at the key goes, where it is a ghost
abbrev pub purged : ℕ → Records → Records
purged k rs = purged_where (found_at k rs) k rs

-- what a call answers over these records
abbrev pub answer_of : StoreCall → Records → StoreAnswer
answer_of (Get k) rs = There (found_at k rs)
answer_of (Set k v) rs = Before (value_at k rs)
answer_of (Hide k) rs = There (found_at k rs)
answer_of (Purge k) rs = There (found_at k rs)
answer_of (AnchorOf k) rs = Below (lower_anchor k rs)
answer_of (Range low high) rs = Rows (map (λ r. (r.0, found_by (Some r.1))) (records_between low high rs))

-- the records that a call leaves
abbrev pub records_by : StoreCall → Records → Records
records_by (Set k v) rs = record_set k (Some v) rs
records_by (Hide k) rs = hidden k rs
records_by (Purge k) rs = purged k rs
records_by _ rs = rs

-- the records that calls leave, made one after another
abbrev pub records_after : List StoreCall → Records → Records
records_after [] rs = rs
records_after (c ∷ cs) rs = records_after cs (records_by c rs)

-- what calls answer, made one after another
abbrev pub answers_of : List StoreCall → Records → List StoreAnswer
answers_of [] rs = []
answers_of (c ∷ cs) rs = answer_of c rs ∷ answers_of cs (records_by c rs)
