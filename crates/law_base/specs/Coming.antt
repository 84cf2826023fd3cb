-- What holds of each record of a log in order behind those before it, whether a checkpoint kept it or it came later: the rule of later records, but for
-- what a checkpoint lets go.
use Rattle.std.specs.Prelude.{◌≡◌, ⊤, ℕ, Bool, true, false, not, ◌&&◌, ◌||◌, ◌==◌, nat_le, List, [], ◌∷◌, ◌++◌, Option, Some, None, is_some}
use Rattle.std.specs.List.{list_all}
use Rattle.clv_base.specs.declared.names.TxId.{TxId}
use Rattle.clv_base.specs.declared.logs.LogRecord.{LogRecord}
use Rattle.clv_base.specs.declared.logs.LogRecord.TheVariants.{Update, Clr, Prepare, Commit, Abort, End, Restart, Add, Unadd, Forgotten, Check}
use Rattle.clv_base.specs.Values.{same_optional_value}
use Rattle.clv_base.specs.Orders.{tx_same, tx_in, nat_in}
use Rattle.clv_base.specs.Maps.{is_number}
use Rattle.clv_base.specs.Folding.{IsRising}
use Rattle.clv_base.specs.Logs.{has_standing, wrote_in, committed_in, prepared_in, aborted_in, prepare_of, standing, value_in}
use Rattle.clv_base.specs.LogRules.{last_restart, before_restart, is_listed, is_known, listed_in, may_set, may_add, writes_below, has_new_standing, some_parts, may_follow}

-- the transaction is of no later run than the last RESTART
abbrev pub is_of_past : List LogRecord → TxId → Bool
is_of_past log tx = elim (last_restart log) [ Some p ↦ nat_le tx.run p.0 | None ↦ false ]

-- a checkpoint let the transaction go: a PREPARE that it keeps lists it, and none of its records is kept
abbrev pub is_let_go : List LogRecord → TxId → Bool
is_let_go part tx = is_listed part tx && not (is_known part tx)

-- a transaction without a PREPARE goes on: it wasn't let go
abbrev pub may_go_on : List LogRecord → List LogRecord → TxId → Bool
may_go_on part log tx = is_of_past log tx && not (is_let_go part tx)

abbrev pub may_come_writing : List LogRecord → List LogRecord → TxId → Bool
may_come_writing part log tx =
    may_go_on part log tx && not (prepared_in log tx) && not (committed_in log tx) && not (aborted_in log tx)
    && not (wrote_in (before_restart [] log) tx)

-- a PREPARE without a write is of one committed in the part, and lists nobody
abbrev pub is_bare : List LogRecord → List LogRecord → TxId → List TxId → Bool
is_bare part log tx [] = committed_in part tx && is_of_past log tx
is_bare part log tx (p ∷ ps) = false

-- whom a PREPARE lists is prepared and neither committed nor aborted, or was let go
abbrev pub may_come_listed : List LogRecord → List LogRecord → TxId → TxId → Bool
may_come_listed part log tx p =
    not (tx_same p tx) && ((prepared_in log p && not (committed_in log p) && not (aborted_in log p)) || (is_let_go part p && is_of_past log p))

abbrev pub commit_may_come : ℕ → List LogRecord → List LogRecord → TxId → List ℕ → Option (ℕ × List TxId) → Bool
commit_may_come shard part log tx parts None = may_go_on part log tx
commit_may_come shard part log tx parts (Some p) = (p.0 == shard) || elim parts [ [] ↦ true | s ∷ ss ↦ false ]

-- whether a record comes behind these in a log with this part
abbrev pub may_come : ℕ → List LogRecord → List LogRecord → LogRecord → Bool
may_come shard part log (Update tx key before after) =
    may_come_writing part log tx && same_optional_value before (value_in log key) && (is_some before || is_some after) && may_set log tx key (standing log)
may_come shard part log (Add tx key by) = may_come_writing part log tx && is_number (value_in log key) && may_add log tx key (standing log)
may_come shard part log (Prepare tx home predecessors) =
    is_some (last_restart log) && (has_new_standing log tx || is_bare part log tx predecessors) && not (prepared_in log tx) && not (committed_in log tx) && not (aborted_in log tx)
    && list_all (may_come_listed part log tx) predecessors
    && list_all (λ w. committed_in log w.tx || tx_in w.tx predecessors) (writes_below tx (standing log))
may_come shard part log (Commit tx parts) =
    is_some (last_restart log) && not (committed_in log tx) && not (aborted_in log tx) && not (nat_in shard parts)
    && list_all (committed_in log) (listed_in log tx) && list_all (λ w. committed_in log w.tx) (writes_below tx (standing log))
    && commit_may_come shard part log tx parts (prepare_of log tx) && ((has_standing log tx || some_parts parts) || committed_in part tx)
may_come shard part log (Abort tx) = may_follow shard log (Abort tx)
may_come shard part log (Clr tx undo_next key after) = may_follow shard log (Clr tx undo_next key after)
may_come shard part log (Unadd tx undo_next key by) = may_follow shard log (Unadd tx undo_next key by)
may_come shard part log (End tx) = may_follow shard log (End tx)
may_come shard part log (Restart run epoch) = may_follow shard log (Restart run epoch)
may_come shard part log Forgotten = is_some (last_restart log)
may_come shard part log (Check run epoch upto base) = false

-- each record comes behind those before it
abbrev pub Comes : ℕ → List LogRecord → List LogRecord → List LogRecord → Type 0
Comes shard part before [] = ⊤
Comes shard part before (r ∷ rs) = (may_come shard part before r ≡ true) × Comes shard part (before ++ r ∷ []) rs

-- a log begins with a checkpoint, whose pairs' keys rise, or with what comes behind nothing
abbrev pub MayBegin : ℕ → List LogRecord → LogRecord → Type 0
MayBegin shard part (Check run epoch upto base) = IsRising base
MayBegin shard part r = may_come shard part [] r ≡ true

abbrev pub AllCome : ℕ → List LogRecord → List LogRecord → Type 0
AllCome shard part [] = ⊤
AllCome shard part (r ∷ rs) = MayBegin shard part r × Comes shard part (r ∷ []) rs

-- each later record may follow those before it
abbrev pub Follows : ℕ → List LogRecord → List LogRecord → Type 0
Follows shard before [] = ⊤
Follows shard before (r ∷ rs) = (may_follow shard before r ≡ true) × Follows shard (before ++ r ∷ []) rs
