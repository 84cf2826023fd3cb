-- Ghosts and the locks on them.
use Rattle.std.specs.Prelude.{◌≡◌, Bool, true, false, not, ◌||◌}
use Rattle.std.specs.List.{filter}
use Rattle.clv_base.specs.declared.modes.Anchor.{Anchor}
use Rattle.clv_base.specs.declared.modes.Anchor.TheVariants.{At}
use Rattle.clv_base.specs.declared.modes.Found.{Found}
use Rattle.clv_base.specs.declared.modes.Found.TheVariants.{Live, Ghost, Absent}
use Rattle.clv_base.specs.Orders.{anchor_same}
use Rattle.clv_base.specs.Locks.{Locks}
use Rattle.clv_base.specs.Needs.{Records, is_locked_or_live, without_ghosts}

-- whether a ghost stands there
abbrev pub is_ghost : Found → Bool
is_ghost (Live v) = false
is_ghost Ghost = true
is_ghost Absent = false

-- each ghost bears a lock: without the ghosts that bear none, the records are the same
abbrev pub GhostsAreLocked : Locks → Records → Type 0
GhostsAreLocked locks rs = without_ghosts locks rs ≡ rs

-- the records without the one on the anchor, where that is a ghost without a lock
abbrev pub without_ghost_on : Anchor → Locks → Records → Records
without_ghost_on a locks rs = filter (λ r. not (anchor_same a (At r.0)) || is_locked_or_live locks r) rs
