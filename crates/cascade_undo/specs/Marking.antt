-- Marking transactions, one after another.
use Rattle.std.specs.Prelude.{ℕ, ◌+◌, cond, List, [], ◌∷◌}
use Rattle.clv_base.specs.declared.names.TxId.{TxId}
use Rattle.clv_base.specs.Orders.{tx_in, tx_insert}

-- the marks with these transactions
abbrev pub marks_with : List TxId → List TxId → List TxId
marks_with [] marks = marks
marks_with (x ∷ xs) marks = marks_with xs (tx_insert x marks)

-- those of them that are new, in their order
abbrev pub new_marks : List TxId → List TxId → List TxId
new_marks [] marks = []
new_marks (x ∷ xs) marks = cond (tx_in x marks) (new_marks xs (tx_insert x marks)) (x ∷ new_marks xs (tx_insert x marks))

-- how many pairs have a second transaction that isn't marked
abbrev pub unmarked : List (TxId × TxId) → List TxId → ℕ
unmarked [] marks = 0
unmarked (p ∷ ps) marks = cond (tx_in p.1 marks) 0 1 + unmarked ps marks
