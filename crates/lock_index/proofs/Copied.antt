-- To copy the gap parts of an anchor is to take those of its holders, one after another.
use Rattle.std.proofs.Common.{◌≡◌, refl, ap, ◌∙◌, Bool, true, false, cond, List, [], ◌∷◌, map}
use Rattle.std.specs.List.{filter}
use Rattle.clv_base.specs.declared.modes.Anchor.{Anchor}
use Rattle.clv_base.specs.declared.modes.Holder.{Holder}
use Rattle.clv_base.specs.Modes.{is_held}
use Rattle.clv_base.specs.Locks.{Locks, take_one, copy_gaps, split_gap, gap_alone, holds_gap}
use Rattle.lock_index.specs.Groups.{Groups, rows_on, rows_of, group_at, Apart}
use Rattle.lock_index.specs.Kept.{take_each}
use Rattle.lock_index.proofs.Grouped.{on, on_rows_of, filter_both, filter_rows_on}

one_by_one : (lower new : Anchor) (rows locks : Locks) → copy_gaps lower new rows locks ≡ take_each new (map (λ r. gap_alone r.1) (filter (holds_gap lower) rows)) locks
one_by_one lower new [] locks = refl
one_by_one lower new (r ∷ rs) locks = go (holds_gap lower r) (one_by_one lower new rs)
  where
    go : (b : Bool) → ((locks : Locks) → copy_gaps lower new rs locks ≡ take_each new (map (λ r. gap_alone r.1) (filter (holds_gap lower) rs)) locks)
        → copy_gaps lower new rs (cond b (take_one new (gap_alone r.1) locks) locks) ≡ take_each new (map (λ r. gap_alone r.1) (cond b (r ∷ filter (holds_gap lower) rs) (filter (holds_gap lower) rs))) locks
    go true more = more (take_one new (gap_alone r.1) locks)
    go false more = more locks

alone_on : (a : Anchor) (hs : List Holder) → map (λ r. gap_alone r.1) (rows_on a hs) ≡ map gap_alone hs
alone_on a [] = refl
alone_on a (h ∷ hs) = ap (λ l. gap_alone h ∷ l) (alone_on a hs)

pub copied_group : (lower new : Anchor) (gs : Groups) → Apart gs → split_gap lower new (rows_of gs) ≡ take_each new (map gap_alone (filter (λ h. is_held (h.mode).gap) (group_at lower gs))) (rows_of gs)
copied_group lower new gs p = one_by_one lower new (rows_of gs) (rows_of gs) ∙ ap (λ l. take_each new l (rows_of gs))
    (ap (map (λ r. gap_alone r.1)) (filter_both (on lower) (λ r. is_held ((r.1).mode).gap) (rows_of gs) ∙ (ap (filter (λ r. is_held ((r.1).mode).gap)) (on_rows_of lower gs p) ∙ filter_rows_on lower (λ h. is_held (h.mode).gap) (group_at lower gs)))
    ∙ alone_on lower (filter (λ h. is_held (h.mode).gap) (group_at lower gs)))
