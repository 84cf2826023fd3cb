-- A chain of the links of a list of records.
use Rattle.std.specs.Prelude.{◌≡◌, ℕ, ◌<◌, ◌+◌, ◌-◌, min, List, [], ◌∷◌, length, Option, Some, None, unwrap_or, slice_index_or, vec_len, vec_capacity}
use Rattle.clv_base.specs.declared.names.TxId.{TxId}
use Rattle.clv_base.specs.Orders.{tx_get}
use Rattle.log_buffer.specs.declared.measured.Link.{Link}
use Rattle.log_buffer.specs.declared.chain.Chain.{Chain}
use Rattle.log_buffer.specs.declared.chain.Written.{Written}
use Rattle.log_buffer.specs.Chains.{first, places, last_undo}

-- what is known of the writes of a transaction: the newest that stands, how many stand, and the last record that compensates one
abbrev pub written_in : TxId → List Link → Written
written_in t links = record { newest = first (places t links); standing = length (places t links); undone = last_undo t links }

-- by its row, if it has one
abbrev pub known_by : Option Written → Written
known_by row = unwrap_or row (record { newest = None; standing = 0; undone = None })

-- with one more write, and without the newest one, over that which is the newest then
abbrev pub with_write : ℕ → Written → Written
with_write n w = record { newest = Some n; standing = w.standing + 1; undone = w.undone }

abbrev pub with_undo : ℕ → Option ℕ → Written → Written
with_undo n newest w = record { newest = newest; standing = w.standing - 1; undone = Some n }

-- each of these places bears the one that follows it
abbrev pub Linked : List (Option ℕ) → List ℕ → Type 0
Linked below [] = Unit {0}
Linked below (p ∷ ps) = (p < length below) × (slice_index_or below p None ≡ first ps) × Linked below ps

pub record IsChainOf (c : Chain) (links : List Link) : Type 0 where
  pub count : length c.below.items ≡ length links
  pub written : (t : TxId) → known_by (tx_get t c.written.rows) ≡ written_in t links
  pub below : (t : TxId) → Linked c.below.items (places t links)

abbrev pub chain_room : Chain → ℕ
chain_room c = min (vec_capacity c.below - vec_len c.below) c.written.room
