-- The writes of a transaction that stand, as a stack of places.
use Rattle.std.specs.Prelude.{ℕ, suc, cond, List, [], ◌∷◌, Option, Some, None}
use Rattle.clv_base.specs.declared.names.TxId.{TxId}
use Rattle.clv_base.specs.Orders.{tx_same}
use Rattle.log_buffer.specs.declared.measured.Link.{Link}
use Rattle.log_buffer.specs.declared.measured.Link.TheVariants.{Writes, Undoes, Neither}
use Rattle.log_buffer.specs.Links.{undoes_of}

abbrev pub first : List ℕ → Option ℕ
first [] = None
first (p ∷ ps) = Some p

abbrev pub others : List ℕ → List ℕ
others [] = []
others (p ∷ ps) = ps

-- the places after one more record at n, the newest first: a compensation takes the newest one
abbrev pub places_after : TxId → ℕ → Link → List ℕ → List ℕ
places_after t n (Writes u) ps = cond (tx_same t u) (n ∷ ps) ps
places_after t n (Undoes u) ps = cond (tx_same t u) (others ps) ps
places_after t n Neither ps = ps

abbrev pub places_from : TxId → ℕ → List Link → List ℕ → List ℕ
places_from t n [] ps = ps
places_from t n (l ∷ ls) ps = places_from t (suc n) ls (places_after t n l ps)

-- the places of the transaction's writes that stand, the newest first
abbrev pub places : TxId → List Link → List ℕ
places t ls = places_from t 0 ls []

-- the place of the last record that compensates a write of the transaction
abbrev pub last_undo_from : TxId → ℕ → Option ℕ → List Link → Option ℕ
last_undo_from t n so_far [] = so_far
last_undo_from t n so_far (l ∷ ls) = last_undo_from t (suc n) (cond (undoes_of t l) (Some n) so_far) ls

abbrev pub last_undo : TxId → List Link → Option ℕ
last_undo t ls = last_undo_from t 0 None ls
