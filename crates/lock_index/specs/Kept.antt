-- What always holds of the holders and the threads; and what a contract sees of the table.
use Rattle.std.specs.Prelude.{◌≡◌, ℕ, min, ◌+◌, ◌-◌, ◌/◌, ◌≤◌, List, [], ◌∷◌, map, vec_len, vec_capacity}
use Rattle.std.specs.Option.{option_map_or}
use Rattle.std.specs.Map.{lookup}
use Rattle.clv_base.specs.declared.names.TxId.{TxId}
use Rattle.clv_base.specs.declared.modes.Anchor.{Anchor}
use Rattle.clv_base.specs.declared.modes.Holder.{Holder}
use Rattle.clv_base.specs.Orders.{anchor_same}
use Rattle.clv_base.specs.Locks.{Locks, take_one}
use Rattle.lock_index.specs.Keys.{anchor_of}
use Rattle.lock_table.specs.Rows.{has_lock_on}
use Rattle.lock_index.specs.Groups.{rows_of, Apart}
use Rattle.lock_index.specs.Rows.{Entries, groups, spare_on}
use Rattle.lock_index.specs.Rising.{Rising}
use Rattle.lock_index.specs.Links.{Links, nexts, has, Threaded}

-- a transaction's thread has the anchors on which it has a lock
abbrev pub Tied : Links → Locks → Type 0
Tied ls rows = (t : TxId) (b : Anchor) → has (nexts ls) t b ≡ has_lock_on t b rows

-- all locks
abbrev pub locks_in : Entries → Locks
locks_in es = rows_of (groups es)

-- on no anchor does the room fall by more than this
abbrev pub FallsBy : ℕ → Entries → Entries → Type 0
FallsBy n before after = (a : Anchor) → spare_on a before ≤ spare_on a after + n

pub record Kept (es : Entries) (ls : Links) : Type 0 where
  pub apart : Apart (groups es)
  pub rising : Rising (rows_of (groups es))
  pub threaded : Threaded ls
  pub tied : Tied ls (rows_of (groups es))

-- the locks with each of these on the anchor
abbrev pub take_each : Anchor → List Holder → Locks → Locks
take_each new [] locks = locks
take_each new (h ∷ hs) locks = take_each new hs (take_one new h locks)

-- for how many holders more there is room, by anchor
abbrev pub spares : Entries → List (Anchor × ℕ)
spares es = map (λ e. (anchor_of e.0, vec_capacity e.1 - vec_len e.1)) es

abbrev pub spare_at : Anchor → List (Anchor × ℕ) → ℕ
spare_at a ss = option_map_or (λ n. n) (lookup (anchor_same a) ss) 0

-- for how many locks there is room on each of the anchors, up to a number
abbrev pub room_at : ℕ → List (Anchor × ℕ) → List Anchor → ℕ
room_at most ss [] = most
room_at most ss (a ∷ rest) = min (spare_at a ss) (room_at most ss rest)

-- what a contract sees: all locks; for how many more there is room in all; and on each anchor
pub record Table : Type 0 where
  pub rows : Locks
  pub most : ℕ
  pub spared : List (Anchor × ℕ)

abbrev pub table : Entries → ℕ → ℕ → Table
table es links copies = record { rows = locks_in es; most = min (links / 2) copies; spared = spares es }
