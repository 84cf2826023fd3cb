-- The doomed set of an aborted transaction: it and all that succeed it, through any number.
use Rattle.std.specs.Prelude.{◌≡◌, Bool, true, ◌&&◌, List}
use Rattle.std.specs.List.{list_any}
use Rattle.clv_base.specs.declared.names.TxId.{TxId}
use Rattle.clv_base.specs.Orders.{tx_same, tx_in}
use Rattle.clv_base.specs.State.{Local}
use Rattle.clv_base.specs.Undo.{doomed_by}

-- whether t is a successor of p
abbrev pub is_pair : List (TxId × TxId) → TxId → TxId → Bool
is_pair pairs t p = list_any (λ q. tx_same t q.0 && tx_same p q.1) pairs

-- the set holds each successor of each of its members
abbrev pub IsClosed : List (TxId × TxId) → List TxId → Type 0
IsClosed pairs set = (t p : TxId) → is_pair pairs t p ≡ true → tx_in p set ≡ true → tx_in t set ≡ true

-- the doomed set holds the transaction, is closed under succession, and lies within each set that does and is
abbrev pub DoomedIsClosure : Type 0
DoomedIsClosure =
    (l : Local) (tx : TxId)
    → (tx_in tx (doomed_by l tx) ≡ true) × IsClosed l.pairs (doomed_by l tx)
    × ((set : List TxId) → tx_in tx set ≡ true → IsClosed l.pairs set → (u : TxId) → tx_in u (doomed_by l tx) ≡ true → tx_in u set ≡ true)
