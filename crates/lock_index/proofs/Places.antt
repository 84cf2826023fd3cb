-- Where an element is put into a list that is in order.
use Rattle.std.proofs.Common.{◌≡◌, refl, ap, List, [], ◌∷◌}
use Rattle.std.specs.declared.cmp.Ordering.{Ordering}
use Rattle.std.specs.Ordering.{match_ordering}
use Rattle.clv_base.specs.declared.modes.Holder.{Holder}
use Rattle.clv_base.specs.Orders.{tx_cmp}
use Rattle.clv_base.specs.Locks.{with_mode}
use Rattle.lock_index.specs.Writes.{take_here}
use Rattle.lock_table.proofs.Laws.{put}

-- to take a lock on an anchor is to put a holder
module _ (h : Holder) where
  abbrev pub side_of : Holder → Ordering
  side_of x = tx_cmp h.tx x.tx

  abbrev pub merged : Holder → Holder
  merged x = with_mode x h.mode

  pub take_here-put : (hs : List Holder) → take_here h hs ≡ put side_of h merged hs
  take_here-put [] = refl
  take_here-put (x ∷ xs) = ap (λ l. match_ordering (side_of x) (h ∷ x ∷ xs) (merged x ∷ xs) (x ∷ l)) (take_here-put xs)
