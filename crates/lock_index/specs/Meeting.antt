-- What a request meets, found from need to need.
use Rattle.std.specs.Prelude.{Bool, cond, not, ◌&&◌, List, [], ◌∷◌, Option, Some, None}
use Rattle.std.specs.Ordering.{ordering_then, is_gt}
use Rattle.std.specs.declared.cmp.Ordering.{Ordering}
use Rattle.clv_base.specs.declared.names.TxId.{TxId}
use Rattle.clv_base.specs.declared.names.Birth.{Birth}
use Rattle.clv_base.specs.declared.modes.Mode.{Mode}
use Rattle.clv_base.specs.declared.modes.Anchor.{Anchor}
use Rattle.clv_base.specs.declared.modes.Need.{Need}
use Rattle.clv_base.specs.declared.modes.Holder.{Holder}
use Rattle.clv_base.specs.Modes.{compatible, writes}
use Rattle.clv_base.specs.Orders.{tx_same, tx_insert, birth_cmp, is_older}
use Rattle.clv_base.specs.declared.modes.Decision.{Decision}
use Rattle.clv_base.specs.declared.modes.Decision.TheVariants.{Grant, Wait, Die}
use Rattle.clv_base.specs.Locks.{row_cmp}
use Rattle.lock_index.specs.Groups.{Groups, group_at}

-- a step for each holder
abbrev pub along : {S : Type 0} → (Holder → S → S) → List Holder → S → S
along f [] s = s
along f (h ∷ hs) s = along f hs (f h s)

-- a step for each holder on the anchor of each need
abbrev pub visit : {S : Type 0} → (Anchor → Mode → Holder → S → S) → List Need → Groups → S → S
visit f [] gs s = s
visit f (n ∷ ns) gs s = visit f ns gs (along (f n.anchor n.mode) (group_at n.anchor gs) s)

-- rows by age, then in their order
abbrev pub age_cmp : Anchor × Holder → Anchor × Holder → Ordering
age_cmp r q = ordering_then (birth_cmp (r.1).birth (q.1).birth) (row_cmp r.0 (r.1).tx q)

-- the older of two rows, where there are two
abbrev pub older_row : Anchor × Holder → Option (Anchor × Holder) → Option (Anchor × Holder)
older_row r None = Some r
older_row r (Some q) = cond (is_gt (age_cmp r q)) (Some q) (Some r)

-- an active holder of another transaction
abbrev pub is_active : TxId → Holder → Bool
is_active tx h = not (tx_same tx h.tx) && not h.closed

-- a closed one
abbrev pub is_closed : TxId → Holder → Bool
is_closed tx h = not (tx_same tx h.tx) && h.closed

abbrev pub bars : Mode → Mode → Bool
bars asked held = not (compatible asked held)

-- the oldest of the rows so far and this one, where it is in the way
abbrev pub oldest_step : TxId → Anchor → Mode → Holder → Option (Anchor × Holder) → Option (Anchor × Holder)
oldest_step tx a m h so_far = cond (is_active tx h && bars m h.mode) (older_row (a, h) so_far) so_far

-- the transactions so far and this one's, where its write is violated
abbrev pub violated_step : TxId → Anchor → Mode → Holder → List TxId → List TxId
violated_step tx a m h so_far = cond (is_closed tx h && writes m h.mode) (tx_insert h.tx so_far) so_far

-- what is decided where this is the oldest in the way
abbrev pub decided : Birth → Option (Anchor × Holder) → Decision
decided birth None = Grant
decided birth (Some r) = cond (is_older (r.1).birth birth) (Die (r.1).tx) (Wait (r.1).tx)
