-- What is told of a range's records is told of the records.
use Rattle.std.proofs.Common.{◌≡◌, ℕ, List, [], ◌∷◌, map, Some, None, refl, ap}
use Rattle.std.specs.List.{filter_map}
use Rattle.clv_base.specs.declared.modes.Part.TheVariants.{S}
use Rattle.clv_base.specs.declared.modes.Anchor.TheVariants.{At}
use Rattle.clv_base.specs.declared.modes.Found.{Found}
use Rattle.clv_base.specs.declared.modes.Need.{Need}
use Rattle.clv_base.specs.Modes.{on_both}
use Rattle.clv_base.specs.Needs.{Records, found_by, need, live_pairs}
use Rattle.shard_ops.specs.Planned.{pair_of}

-- the rows as they are read
abbrev pub rows_of : Records → List (ℕ × Found)
rows_of rs = map (λ r. (r.0, found_by (Some r.1))) rs

abbrev pub row_needs : List (ℕ × Found) → List Need
row_needs rows = map (λ r. need (At r.0) (on_both S)) rows

pub row_needs-of_records : (rs : Records) → row_needs (rows_of rs) ≡ map (λ r. need (At r.0) (on_both S)) rs
row_needs-of_records [] = refl
row_needs-of_records (r ∷ rs) = ap (λ l. need (At r.0) (on_both S) ∷ l) (row_needs-of_records rs)

pub pairs-of_records : (rs : Records) → filter_map pair_of (rows_of rs) ≡ live_pairs rs
pairs-of_records [] = refl
pairs-of_records ((k, Some v) ∷ rs) = ap (λ l. (k, v) ∷ l) (pairs-of_records rs)
pairs-of_records ((k, None) ∷ rs) = pairs-of_records rs
