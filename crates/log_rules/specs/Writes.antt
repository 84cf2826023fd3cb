-- Tables of UPDATEs and ADDs, read as functions.
use Rattle.std.specs.Prelude.{◌≡◌, ℕ, zero, suc, cond, List, [], Option, Some, None, true, Bool, is_some, unwrap_or, slice_get, slice_index_or, if◌then◌else◌, ◌==◌, ◌+◌, ◌-◌}
use Rattle.std.specs.HashMap as hash
use Rattle.clv_base.specs.declared.values.Value.{Value as ValueType}
use Rattle.clv_base.specs.declared.names.TxId.{TxId}
use Rattle.clv_base.specs.declared.logs.LogRecord.{LogRecord}
use Rattle.clv_base.specs.declared.logs.LogRecord.TheVariants.{Update, Add}
use Rattle.clv_base.specs.declared.changes.Change.{Change}
use Rattle.clv_base.specs.declared.changes.Change.TheVariants.{Sets, Adds}
use Rattle.clv_base.specs.Orders.{tx_same, tx_get}
use Rattle.clv_base.specs.Logs.{changed, unchanged, is_setting}
use Rattle.clv_base.specs.OneShard.{update_of}
use Rattle.log_rules.specs.Shares.{Share, crowd_of, with_share, without_share, without}
pub use Rattle.log_rules.specs.declared.writes.Write.{Write}
pub use Rattle.log_rules.specs.declared.writes.Links.{Links}
pub use Rattle.log_rules.specs.declared.writes.Row.{Row}
pub use Rattle.log_rules.specs.declared.writes.Row.TheVariants.{Empty, Linked}
pub use Rattle.log_rules.specs.declared.writes.Step.{Step}
pub use Rattle.log_rules.specs.declared.writes.Top.{Top}
pub use Rattle.log_rules.specs.declared.writes.Writes.{Writes}

-- an LSN that is kept as the number above it, 0 for none
abbrev pub lsn_in : ℕ → Option ℕ
lsn_in link = if link == 0 then None else Some (link - 1)

-- the row at a place
abbrev pub row_in : List Row → ℕ → Row
row_in rows n = slice_index_or rows n Empty

-- the write of these fields, with its links
abbrev pub written_as : ℕ → TxId → ℕ → Change → Links → Write
written_as lsn tx key change l =
    record {
      lsn = lsn;
      tx = tx;
      key = key;
      change = change;
      below = lsn_in l.below;
      adds = l.adds;
      earlier = lsn_in l.earlier;
    }

-- the UPDATE or ADD that a record is, with its links
abbrev pub write_with : ℕ → Links → LogRecord → Option Write
write_with lsn l (Update tx key before after) = Some (written_as lsn tx key (Sets before after) l)
write_with lsn l (Add tx key by) = Some (written_as lsn tx key (Adds by) l)
write_with lsn l _ = None

-- so by its row
abbrev pub write_in : ℕ → Row → LogRecord → Option Write
write_in lsn Empty r = None
write_in lsn (Linked l) r = write_with lsn l r

-- so where there may be no record
abbrev pub write_from : ℕ → Row → Option LogRecord → Option Write
write_from lsn row None = None
write_from lsn row (Some r) = write_in lsn row r

-- the write at an LSN, if one is known there
abbrev pub write_at : Writes → Option ℕ → Option Write
write_at m None = None
write_at m (Some n) = write_from n (row_in m.rows.items n) (slice_get m.records.now n)

-- the step that it is of a walk back over its transaction's
abbrev pub step_of : Option Write → Option Step
step_of None = None
step_of (Some w) = Some (record { key = w.key; is_setting = is_setting w.change; earlier = w.earlier })

abbrev pub step_at : Writes → Option ℕ → Option Step
step_at m at = step_of (write_at m at)

-- the LSN of the newest UPDATE that stands at a key, how many ADDs stand above it, and the value that all leave
abbrev pub top_of : Writes → ℕ → Option Top
top_of m key = hash.get (◌==◌) m.tops key

abbrev pub top_at : Writes → ℕ → Option ℕ
top_at m key = elim (top_of m key) [ None ↦ None | Some t ↦ t.update ]

abbrev pub adds_at : Writes → ℕ → ℕ
adds_at m key = elim (top_of m key) [ None ↦ 0 | Some t ↦ t.adds ]

abbrev pub value_at : Writes → ℕ → Option ValueType
value_at m key = elim (top_of m key) [ None ↦ None | Some t ↦ t.value ]

-- the shares at a key
abbrev pub shares_at : Writes → ℕ → List Share
shares_at m key = elim (top_of m key) [ None ↦ [] | Some t ↦ crowd_of t.crowd ]

-- whether something is known of the key
abbrev pub is_there : Writes → ℕ → Bool
is_there m key = is_some (top_of m key)

-- the LSN of the newest write of a transaction that stands
abbrev pub newest_by : Writes → TxId → Option ℕ
newest_by m tx = unwrap_or (tx_get tx m.newest.rows) None

-- a write that is written now, with its links
abbrev pub linked_over : Writes → ℕ → TxId → ℕ → Change → Write
linked_over m lsn tx key change =
    record {
      lsn = lsn;
      tx = tx;
      key = key;
      change = change;
      below = cond (is_setting change) (top_at m key) None;
      adds = cond (is_setting change) (adds_at m key) 0;
      earlier = newest_by m tx;
    }

-- what is on top after a write: an UPDATE is, and no ADD above it
abbrev pub top_after : Change → ℕ → Option ℕ → Option ℕ
top_after (Sets before after) lsn top = Some lsn
top_after (Adds by) lsn top = top

abbrev pub adds_after : Change → ℕ → ℕ
adds_after (Sets before after) adds = 0
adds_after (Adds by) adds = adds + 1

-- and what was before it
abbrev pub top_before : Write → Change → Option ℕ → Option ℕ
top_before w (Sets before after) top = w.below
top_before w (Adds by) top = top

abbrev pub adds_before : Write → Change → ℕ → ℕ
adds_before w (Sets before after) adds = w.adds
adds_before w (Adds by) adds = adds - 1

-- with one write more
pub record Pushes (old new : Writes) (w : Write) : Type 0 where
  pub rows : (k : ℕ) → write_at new (Some k) ≡ (if w.lsn == k then Some w else write_at old (Some k))
  pub tops : (k : ℕ) → top_at new k ≡ (if w.key == k then top_after w.change w.lsn (top_at old w.key) else top_at old k)
  pub adds : (k : ℕ) → adds_at new k ≡ (if w.key == k then adds_after w.change (adds_at old w.key) else adds_at old k)
  pub values : (k : ℕ) → value_at new k ≡ (if w.key == k then changed w.change (value_at old w.key) else value_at old k)
  pub shares : (k : ℕ) → shares_at new k ≡ (if w.key == k then with_share w.tx (is_setting w.change) (shares_at old w.key) else shares_at old k)
  pub newest : (t : TxId) → newest_by new t ≡ (if tx_same w.tx t then Some w.lsn else newest_by old t)

-- with the write that is the record at an LSN
abbrev pub PushesAt : Writes → Writes → ℕ → TxId → ℕ → Change → Type 0
PushesAt old new lsn tx key change = slice_get old.records.now lsn ≡ Some (update_of tx key change) → Pushes old new (linked_over old lsn tx key change)

-- without a transaction's newest one
pub record PopsWrite (old new : Writes) (tx : TxId) (w : Write) : Type 0 where
  pub rows : (k : ℕ) → write_at new (Some k) ≡ write_at old (Some k)
  pub tops : (k : ℕ) → top_at new k ≡ (if w.key == k then top_before w w.change (top_at old w.key) else top_at old k)
  pub adds : (k : ℕ) → adds_at new k ≡ (if w.key == k then adds_before w w.change (adds_at old w.key) else adds_at old k)
  pub values : (k : ℕ) → value_at new k ≡ (if w.key == k then unchanged w.change (value_at old w.key) else value_at old k)
  pub shares : (k : ℕ) → shares_at new k ≡ (if w.key == k then without_share tx (is_setting w.change) (shares_at old w.key) else shares_at old k)
  pub newest : (t : TxId) → newest_by new t ≡ (if tx_same tx t then w.earlier else newest_by old t)

abbrev pub Pops : Writes → Writes → TxId → Option Write → Type 0
Pops old new tx None = Unit {0}
Pops old new tx (Some w) = is_there old w.key ≡ true → PopsWrite old new tx w

-- the shares at a key without those of a transaction, whose writes are walked back from one of them, in at most so many steps
abbrev pub settled_from : Writes → TxId → ℕ → Option ℕ → ℕ → List Share → List Share
settled_from m tx zero at k ss = ss
settled_from m tx (suc n) at k ss = elim (step_at m at) [ None ↦ ss | Some s ↦ settled_from m tx n s.earlier k (if s.key == k then without tx ss else ss) ]

-- all else stays
pub record KeepsWrites (old new : Writes) : Type 0 where
  pub records : new.records ≡ old.records
  pub rows : new.rows ≡ old.rows
  pub tops : (k : ℕ) → top_at new k ≡ top_at old k
  pub adds : (k : ℕ) → adds_at new k ≡ adds_at old k
  pub values : (k : ℕ) → value_at new k ≡ value_at old k
  pub newest : new.newest ≡ old.newest

-- all shares of a transaction go
pub record Settles (old new : Writes) (n : ℕ) (tx : TxId) : Type 0 where
  pub keeps : KeepsWrites old new
  pub shares : (k : ℕ) → shares_at new k ≡ settled_from old tx n (newest_by old tx) k (shares_at old k)
