-- Who lists whom, read from the table.
use Rattle.std.specs.Prelude.{◌≡◌, ◌<◌, ℕ, zero, suc, ◌||◌, ◌&&◌, List, [], ◌∷◌, ◌++◌, length, Option, Some, None, slice_get, if◌then◌else◌}
use Rattle.std.specs.BTreeMap as tree
use Rattle.clv_base.specs.declared.names.TxId.{TxId}
use Rattle.clv_base.specs.Orders.{tx_cmp, tx_same, tx_in}
pub use Rattle.log_rules.specs.declared.listers.Lister.{Lister}
pub use Rattle.log_rules.specs.declared.listers.Listers.{Listers}

-- the place of the last lister of a transaction
abbrev pub last_of : Listers → TxId → Option ℕ
last_of m listed = tree.get tx_cmp m.last listed

abbrev pub lister_at : List Lister → Option ℕ → Option Lister
lister_at all None = None
lister_at all (Some n) = slice_get all n

-- the listers from a place on, in at most so many steps
abbrev pub listers_from : List Lister → ℕ → Option ℕ → List TxId
listers_from all zero place = []
listers_from all (suc n) place = elim (lister_at all place) [ None ↦ [] | Some l ↦ l.tx ∷ listers_from all n l.next ]

-- who lists the transaction
abbrev pub listers_in : Listers → TxId → List TxId
listers_in m listed = listers_from m.all.items (length m.all.items) (last_of m listed)

-- the transaction lists one more
pub record ListsOne (old new : Listers) (tx listed : TxId) : Type 0 where
  pub all : new.all.items ≡ old.all.items ++ record { tx = tx; next = last_of old listed } ∷ []
  pub last : (t : TxId) → last_of new t ≡ (if tx_same listed t then Some (length old.all.items) else last_of old t)

-- each step down goes to an earlier place
abbrev pub IsUnder : ℕ → Option ℕ → Type 0
IsUnder n None = Unit {0}
IsUnder n (Some m) = m < n

-- so in a table
pub record Descends (m : Listers) : Type 0 where
  pub steps : (n : ℕ) (l : Lister) → lister_at m.all.items (Some n) ≡ Some l → IsUnder n l.next
  pub starts : (q : TxId) → IsUnder (length m.all.items) (last_of m q)

-- the transaction lists these
pub record ListsThem (old new : Listers) (tx : TxId) (listed : List TxId) : Type 0 where
  pub descends : Descends new
  pub who : (q t : TxId) → tx_in t (listers_in new q) ≡ tx_in t (listers_in old q) || (tx_same tx t && tx_in q listed)

abbrev pub ListsAll : Listers → Listers → TxId → List TxId → Type 0
ListsAll old new tx listed = Descends old → ListsThem old new tx listed
