-- The COMMITs with parts and no END, by a table of facts.
use Rattle.std.specs.Prelude.{ℕ, not, ◌&&◌, List, [], ◌∷◌, cond}
use Rattle.clv_base.specs.declared.logs.LogRecord.{LogRecord}
use Rattle.clv_base.specs.declared.logs.LogRecord.TheVariants.{Commit}
use Rattle.clv_base.specs.Orders.{Table, tx_put}
use Rattle.clv_base.specs.LogRules.{some_parts}
use Rattle.log_analysis.specs.declared.facts.TxFacts.{TxFacts}
use Rattle.log_analysis.specs.Facts.{known}

abbrev pub with_commit : Table TxFacts → LogRecord → Table (List ℕ) → Table (List ℕ)
with_commit m (Commit tx parts) rest = cond (some_parts parts && not (known m tx).is_ended) (tx_put tx parts rest) rest
with_commit m _ rest = rest

abbrev pub commits_by : Table TxFacts → List LogRecord → Table (List ℕ)
commits_by m [] = []
commits_by m (r ∷ rs) = with_commit m r (commits_by m rs)
