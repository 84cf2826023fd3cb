-- Who is in doubt, by a table of facts.
use Rattle.std.specs.Prelude.{ℕ, Bool, not, ◌&&◌, ◌||◌, ◌==◌, List, [], ◌∷◌, ◌++◌, is_some, unwrap_or, cond}
use Rattle.std.specs.List.{list_all}
use Rattle.clv_base.specs.declared.names.TxId.{TxId}
use Rattle.clv_base.specs.declared.logs.LogRecord.{LogRecord}
use Rattle.clv_base.specs.declared.logs.LogRecord.TheVariants.{Prepare}
use Rattle.clv_base.specs.Orders.{Table, tx_in, tx_insert}
use Rattle.log_analysis.specs.declared.facts.TxFacts.{TxFacts}
use Rattle.log_analysis.specs.Facts.{known}
use Rattle.log_analysis.specs.Lists.{home_at, listed_at}

abbrev pub has_commit : Table TxFacts → TxId → Bool
has_commit m tx = is_some (known m tx).commit

-- committed, or in doubt so far
abbrev pub settles : Table TxFacts → List TxId → TxId → Bool
settles m so_far p = has_commit m p || tx_in p so_far

abbrev pub is_doubted : Table TxFacts → ℕ → TxId → ℕ → List TxId → List TxId → Bool
is_doubted m shard tx home listed so_far =
    not (shard == home) && not (has_commit m tx) && not (known m tx).is_aborted && list_all (settles m so_far) listed

abbrev pub with_doubted : Table TxFacts → ℕ → LogRecord → List TxId → List TxId
with_doubted m shard (Prepare tx home listed) so_far = cond (is_doubted m shard tx home listed so_far) (tx_insert tx so_far) so_far
with_doubted m shard _ so_far = so_far

abbrev pub doubted_from : Table TxFacts → ℕ → List LogRecord → List TxId → List TxId
doubted_from m shard [] so_far = so_far
doubted_from m shard (r ∷ rs) so_far = doubted_from m shard rs (with_doubted m shard r so_far)

-- the home that its PREPARE names
abbrev pub home_in : Table TxFacts → List LogRecord → TxId → ℕ
home_in m log t = unwrap_or (home_at log (known m t).prepare) 0

-- a transaction with each that it lists and that isn't committed
abbrev pub pairs_by : Table TxFacts → TxId → List TxId → List (TxId × TxId)
pairs_by m tx [] = []
pairs_by m tx (p ∷ ps) = cond (has_commit m p) (pairs_by m tx ps) ((tx, p) ∷ pairs_by m tx ps)

abbrev pub pairs_from : Table TxFacts → List LogRecord → List TxId → List (TxId × TxId)
pairs_from m log [] = []
pairs_from m log (t ∷ ts) = pairs_by m t (listed_at log (known m t).prepare) ++ pairs_from m log ts
