-- Rows that rise, by anchor and then transaction.
use Rattle.std.specs.Prelude.{◌≡◌, [], ◌∷◌}
use Rattle.std.specs.declared.cmp.Ordering.{Ordering}
use Rattle.std.specs.declared.cmp.Ordering.TheVariants.{Less}
use Rattle.clv_base.specs.declared.modes.Anchor.{Anchor}
use Rattle.clv_base.specs.declared.modes.Holder.{Holder}
use Rattle.clv_base.specs.Locks.{Locks, row_cmp}

abbrev pub row_order : Anchor × Holder → Anchor × Holder → Ordering
row_order r q = row_cmp r.0 (r.1).tx q

-- the row stands before each of the others
abbrev pub Behind : Anchor × Holder → Locks → Type 0
Behind r [] = Unit {0}
Behind r (q ∷ qs) = (row_order r q ≡ Less) × Behind r qs

abbrev pub Rising : Locks → Type 0
Rising [] = Unit {0}
Rising (r ∷ rs) = Behind r rs × Rising rs
