-- To copy the gap parts is to take a lock for each of them.
use Rattle.std.proofs.Common.{◌≡◌, refl, cond, true, false, Bool, List, [], ◌∷◌, map}
use Rattle.std.specs.List.{filter}
use Rattle.clv_base.specs.declared.modes.Anchor.{Anchor}
use Rattle.clv_base.specs.declared.modes.Holder.{Holder}
use Rattle.clv_base.specs.Locks.{Locks, take_one, copy_gaps, gap_alone, holds_gap}

-- the locks with each of these on the anchor
abbrev pub take_each : Anchor → List Holder → Locks → Locks
take_each new [] locks = locks
take_each new (h ∷ hs) locks = take_each new hs (take_one new h locks)

abbrev pub gap_parts : Anchor → Locks → List Holder
gap_parts lower rows = map (λ r. gap_alone r.1) (filter (holds_gap lower) rows)

pub copy_gaps-take_each : (lower new : Anchor) (rows locks : Locks) → copy_gaps lower new rows locks ≡ take_each new (gap_parts lower rows) locks
copy_gaps-take_each lower new [] locks = refl
copy_gaps-take_each lower new (r ∷ rs) locks = go (holds_gap lower r) (copy_gaps-take_each lower new rs)
  where
    go : (b : Bool) → ((locks : Locks) → copy_gaps lower new rs locks ≡ take_each new (gap_parts lower rs) locks)
        → copy_gaps lower new rs (cond b (take_one new (gap_alone r.1) locks) locks) ≡ take_each new (map (λ r. gap_alone r.1) (cond b (r ∷ filter (holds_gap lower) rs) (filter (holds_gap lower) rs))) locks
    go true more = more (take_one new (gap_alone r.1) locks)
    go false more = more locks
