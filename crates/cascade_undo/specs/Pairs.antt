-- Lists of pairs, in order.
use Rattle.std.specs.Prelude.{◌≡◌, cond, not, List, [], ◌∷◌}
use Rattle.std.specs.List.{filter}
use Rattle.std.specs.Map.{keys_of}
use Rattle.clv_base.specs.declared.names.TxId.{TxId}
use Rattle.clv_base.specs.OneShard.{add_pairs}
use Rattle.clv_base.specs.Orders.{Table, tx_same}
use Rattle.protocol_laws.specs.UndoLaws.{is_pair}
use Rattle.tx_table.specs.Lists.{list_in}

-- the second list has the pairs of the first, turned round
abbrev pub AreTurned : List (TxId × TxId) → List (TxId × TxId) → Type 0
AreTurned pairs turned = (t p : TxId) → is_pair turned p t ≡ is_pair pairs t p

-- the pairs of these transactions, each with those in a list of its own, rising
abbrev pub pairs_by : (TxId → List TxId) → List TxId → List (TxId × TxId)
pairs_by f [] = []
pairs_by f (t ∷ ts) = add_pairs t (f t) (pairs_by f ts)

-- those of all transactions with those in their lists
abbrev pub pairs_in : Table (List TxId) → List (TxId × TxId)
pairs_in lists = pairs_by (λ t. list_in t lists) (keys_of lists)

-- the list of a transaction, where one leaves those of these
abbrev pub left_by : TxId → List TxId → TxId → List TxId → List TxId
left_by tx [] p xs = xs
left_by tx (q ∷ qs) p xs = left_by tx qs p (cond (tx_same q p) (filter (λ x. not (tx_same x tx)) xs) xs)
