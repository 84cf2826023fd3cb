-- The parts of an agreement at a home.
use Rattle.std.specs.Prelude.{ℕ, Bool, not, ◌&&◌, ◌||◌, ◌==◌, List, is_some}
use Rattle.clv_base.specs.declared.names.TxId.{TxId}
use Rattle.clv_base.specs.declared.logs.LogRecord.{LogRecord}
use Rattle.clv_base.specs.Orders.{nat_in}
use Rattle.clv_base.specs.Logs.{committed_in}
use Rattle.log_analysis.specs.declared.facts.TxFacts.{TxFacts}
use Rattle.clv_base.specs.LogRules.{log_of, is_undone_in, part_agrees}

-- by what a log says of a transaction: nothing of it stands, and nothing but its writes and what compensates them is there
abbrev pub is_undone_by : TxFacts → Bool
is_undone_by f = (f.standing == 0) && not (is_some f.prepare) && not (is_some f.commit) && not f.is_aborted && not f.is_ended

-- another log is that of a part, or undid what it has of the transaction
abbrev pub is_part_or_undone : TxId → ℕ → List ℕ → ℕ → List LogRecord → Bool
is_part_or_undone tx h parts s other = (s == h) || nat_in s parts || is_undone_in other tx

-- the log at a shard, if there is one, is that of a part
abbrev pub agrees_on : List (List LogRecord) → TxId → ℕ → ℕ → Bool
agrees_on logs tx h s = part_agrees tx h (log_of logs s)

abbrev pub commits_on : List (List LogRecord) → TxId → ℕ → Bool
commits_on logs tx s = committed_in (log_of logs s) tx
