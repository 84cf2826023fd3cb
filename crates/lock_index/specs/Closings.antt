-- The locks of a transaction become closed, on one anchor after another.
use Rattle.std.specs.Prelude.{◌≡◌, ◌≤◌, ℕ, cond, List, [], ◌∷◌, map, Option, length}
use Rattle.clv_base.specs.declared.names.TxId.{TxId}
use Rattle.clv_base.specs.declared.modes.Anchor.{Anchor}
use Rattle.clv_base.specs.declared.modes.Holder.{Holder}
use Rattle.clv_base.specs.Orders.{anchor_same}
use Rattle.clv_base.specs.Locks.{Locks, close_holder, close_locks}
use Rattle.lock_index.specs.Links.{Nexts, Path}

-- a row after the locks on one anchor were closed
abbrev pub close_row : TxId → Anchor → Anchor × Holder → Anchor × Holder
close_row tx a r = (r.0, cond (anchor_same a r.0) (close_holder tx r.1) r.1)

-- and on each of these
abbrev pub close_over : TxId → List Anchor → Anchor × Holder → Anchor × Holder
close_over tx [] r = r
close_over tx (a ∷ rest) r = close_over tx rest (close_row tx a r)

-- once the rest of the thread is closed, all locks are
pub record Closing (N : Nexts) (tx : TxId) (at : Option Anchor) (left : ℕ) (before now : Locks) : Type 0 where
  pub rest : List Anchor
  pub path : Path N tx at rest
  pub few : length rest ≤ left
  pub done : map (close_over tx rest) now ≡ close_locks tx before
