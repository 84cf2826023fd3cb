-- What contracts say of the locks beside the protocol's definitions.
use Rattle.std.specs.Prelude.{◌≡◌, ◌≤◌, ◌+◌, ℕ, Bool, true, not, ◌&&◌, List, [], ◌∷◌, length, map, Option, Some, None}
use Rattle.std.specs.List.{filter, list_any}
use Rattle.clv_base.specs.declared.names.TxId.{TxId}
use Rattle.clv_base.specs.declared.names.Birth.{Birth}
use Rattle.clv_base.specs.declared.modes.Anchor.{Anchor}
use Rattle.clv_base.specs.declared.modes.Need.{Need}
use Rattle.clv_base.specs.declared.modes.Holder.{Holder}
use Rattle.clv_base.specs.Locks.{Locks, holds_gap, take_all, release, oldest_by, conflicting_holders}
use Rattle.clv_base.specs.Orders.{tx_same, anchor_same, is_older}

-- how many hold the anchor's gap
abbrev pub gaps_held : Anchor → Locks → ℕ
gaps_held a rows = length (filter (holds_gap a) rows)

-- on no anchor do the gap parts grow by more than the needs that are taken
abbrev pub TakesFewGaps : Type 0
TakesFewGaps = (a : Anchor) (tx : TxId) (birth : Birth) (needs : List Need) (rows : Locks) → gaps_held a (take_all tx birth needs rows) ≤ gaps_held a rows + length needs

-- who holds a lock on the anchor
abbrev pub holders_on : Anchor → Locks → List Holder
holders_on a rows = map (λ r. r.1) (filter (λ r. anchor_same a r.0) rows)

-- the anchors of the needs
abbrev pub anchors_of : List Need → List Anchor
anchors_of needs = map (λ n. n.anchor) needs

-- ---- giving up one lock

-- whether a row is the transaction's lock on the anchor
abbrev pub is_lock_of : TxId → Anchor → Anchor × Holder → Bool
is_lock_of tx a r = anchor_same a r.0 && tx_same tx (r.1).tx

-- whether the transaction has a lock on the anchor
abbrev pub has_lock_on : TxId → Anchor → Locks → Bool
has_lock_on tx a rows = list_any (is_lock_of tx a) rows

-- the locks without the transaction's on the anchor
abbrev pub without_lock : TxId → Anchor → Locks → Locks
without_lock tx a rows = filter (λ r. not (is_lock_of tx a r)) rows

-- the transaction gave up its lock on this anchor; or it had no lock at all, and all stay
abbrev pub GivesUpOne : TxId → Option Anchor → Locks → Locks → Type 0
GivesUpOne tx (Some a) before after = (has_lock_on tx a before ≡ true) × (after ≡ without_lock tx a before)
GivesUpOne tx None before after = (after ≡ before) × (release (tx ∷ []) before ≡ before)

-- ---- what a request meets

-- the oldest of the active holders in its way on these rows: of those that are older than it, and of all
abbrev pub AreOldest : TxId → Birth → List Need → Locks → Option Holder → Option Holder → Type 0
AreOldest tx birth needs rows older active =
    let ways = conflicting_holders tx needs rows in
    (older ≡ oldest_by (λ h. not h.closed && is_older h.birth birth) ways) × (active ≡ oldest_by (λ h. not h.closed) ways)
