-- Which UPDATEs and ADDs of a log stand, found from its end: how many of each transaction's next ones are compensated by records that were passed.
use Rattle.std.specs.Prelude.{◌≡◌, ℕ, ◌+◌, ◌-◌, nat_lt, List, [], ◌∷◌, ◌++◌, map, unwrap_or, cond, if◌then◌else◌}
use Rattle.clv_base.specs.declared.names.TxId.{TxId}
use Rattle.clv_base.specs.declared.logs.LogRecord.{LogRecord}
use Rattle.clv_base.specs.Orders.{tx_same, tx_get}
use Rattle.clv_base.specs.Logs.{StandingUpdate, standing_after}
pub use Rattle.log_analysis.specs.declared.standing.Passed.{Passed}

-- what a table has for a transaction
abbrev pub owed_in : Passed → TxId → ℕ
owed_in p t = unwrap_or (tx_get t p.rows.rows) 0

-- with one more of a transaction, and with one fewer
abbrev pub one_more : TxId → (TxId → ℕ) → TxId → ℕ
one_more tx owed t = if tx_same tx t then owed tx + 1 else owed t

abbrev pub one_fewer : TxId → (TxId → ℕ) → TxId → ℕ
one_fewer tx owed t = if tx_same tx t then owed tx - 1 else owed t

-- what is left of writes, given newest first, without so many newest ones of each transaction
abbrev pub left_of : (TxId → ℕ) → List StandingUpdate → List StandingUpdate
left_of owed [] = []
left_of owed (w ∷ ws) = cond (nat_lt 0 (owed w.tx)) (left_of (one_fewer w.tx owed) ws) (w ∷ left_of owed ws)

abbrev pub lsns_left : (TxId → ℕ) → List StandingUpdate → List ℕ
lsns_left owed ws = map (λ w. w.lsn) (left_of owed ws)

-- a record at n was passed: of any writes before it, those that are left then are those that were left after it
abbrev pub Passes : (TxId → ℕ) → List ℕ → ℕ → LogRecord → (TxId → ℕ) → List ℕ → Type 0
Passes owed lsns n r owed' lsns' = (ws : List StandingUpdate) → lsns' ++ lsns_left owed' ws ≡ lsns ++ lsns_left owed (standing_after n r ws)
