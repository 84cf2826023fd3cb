-- The order rules by an index of the records so far.
use Rattle.std.specs.Prelude.{ℕ, zero, suc, Bool, true, false, not, ◌&&◌, ◌||◌, ◌==◌, nat_lt, List, [], ◌∷◌, Option, Some, None, is_some}
use Rattle.std.specs.List.{list_all}
use Rattle.clv_base.specs.declared.values.Value.{Value as ValueType}
use Rattle.clv_base.specs.declared.names.TxId.{TxId}
use Rattle.clv_base.specs.declared.logs.LogRecord.{LogRecord}
use Rattle.clv_base.specs.declared.logs.LogRecord.TheVariants.{Update, Clr, Prepare, Commit, Abort, End, Restart, Add, Unadd, Forgotten, Check}
use Rattle.clv_base.specs.declared.changes.Change.{Change}
use Rattle.clv_base.specs.declared.changes.Change.TheVariants.{Sets, Adds}
use Rattle.clv_base.specs.Orders.{tx_same, tx_in, nat_in}
use Rattle.clv_base.specs.Maps.{is_number}
use Rattle.clv_base.specs.Values.{same_optional_value}
use Rattle.clv_base.specs.LogRules.{same_option, some_parts}
use Rattle.log_analysis.specs.declared.facts.TxFacts.{TxFacts}
use Rattle.log_analysis.specs.Facts.{known}
use Rattle.log_analysis.specs.Lists.{home_at, listed_at, parts_at}
use Rattle.log_rules.specs.declared.index.Index.{Index}
use Rattle.log_rules.specs.Writes.{Write, Step, write_at, step_at, top_at, adds_at, value_at, shares_at, newest_by}
use Rattle.log_rules.specs.Shares.{Share}

-- run and epoch are above the last ones
abbrev pub is_above : ℕ → ℕ → Option (ℕ × ℕ) → Bool
is_above run epoch None = true
is_above run epoch (Some p) = nat_lt p.0 run || ((p.0 == run) && nat_lt p.1 epoch)

-- the run is the last one
abbrev pub is_last_run : ℕ → Option (ℕ × ℕ) → Bool
is_last_run run None = false
is_last_run run (Some p) = run == p.0

-- an LSN that is there and below another, and one that is there and above it
abbrev pub is_before : ℕ → Option ℕ → Bool
is_before at None = false
is_before at (Some n) = nat_lt n at

abbrev pub is_after : ℕ → Option ℕ → Bool
is_after at None = false
is_after at (Some n) = nat_lt at n

-- an LSN that may be none is below this one
abbrev pub is_below : Option ℕ → ℕ → Bool
is_below None lsn = true
is_below (Some n) lsn = nat_lt n lsn

-- a CLR with this value undoes the change, and an UNADD of this number
abbrev pub undoes_setting : Change → Option ValueType → Bool
undoes_setting (Sets before set) after = same_optional_value before after
undoes_setting (Adds added) after = false

abbrev pub undoes_adding : Change → ℕ → Bool
undoes_adding (Sets before set) by = false
undoes_adding (Adds added) by = added == by

abbrev pub facts_in : Index → TxId → TxFacts
facts_in x tx = known x.facts tx

-- what the log says of a transaction, by the index
abbrev pub has_commit : Index → TxId → Bool
has_commit x tx = is_some (facts_in x tx).commit

abbrev pub has_no_fate : Index → TxId → Bool
has_no_fate x tx = not (is_some (facts_in x tx).prepare) && not (is_some (facts_in x tx).commit) && not (facts_in x tx).is_aborted

-- whether some write of it stands
abbrev pub stands : Index → TxId → Bool
stands x tx = nat_lt 0 (facts_in x tx).standing

-- what it wrote may be undone
abbrev pub may_be_undone : Index → TxId → Bool
may_be_undone x tx = (facts_in x tx).is_aborted || (not (is_some (facts_in x tx).prepare) && not (is_some (facts_in x tx).commit))

-- others may write over what this one wrote
abbrev pub may_be_covered : Index → TxId → TxId → Bool
may_be_covered x tx writer =
    tx_same tx writer || ((is_some (facts_in x writer).prepare || is_some (facts_in x writer).commit) && not (facts_in x writer).is_aborted)

-- so of all without a COMMIT who wrote at the key, and of all who set its value
abbrev pub may_be_set_over : Index → TxId → ℕ → Bool
may_be_set_over x tx key = list_all (λ s. may_be_covered x tx s.tx) (shares_at x.writes key)

abbrev pub may_be_added_over : Index → TxId → ℕ → Bool
may_be_added_over x tx key = list_all (λ s. (s.sets == 0) || may_be_covered x tx s.tx) (shares_at x.writes key)

-- another transaction may be listed
abbrev pub may_be_listed : Index → TxId → TxId → Bool
may_be_listed x tx p = not (tx_same p tx) && is_some (facts_in x p).prepare && not (is_some (facts_in x p).commit) && not (facts_in x p).is_aborted

-- the writer is the transaction, or one of a list
abbrev pub is_own_or_one_of : TxId → List TxId → TxId → Bool
is_own_or_one_of tx listed writer = tx_same writer tx || tx_in writer listed

-- who wrote at the key of a write is the transaction, is listed, or added where it adds
abbrev pub is_met : TxId → List TxId → Bool → Share → Bool
is_met tx listed is_setting s = is_own_or_one_of tx listed s.tx || (not is_setting && (s.sets == 0))

-- so of all without a COMMIT who wrote there
abbrev pub is_clear_under : Index → TxId → List TxId → Step → Bool
is_clear_under x tx listed s = list_all (is_met tx listed s.is_setting) (shares_at x.writes s.key)

-- so below each of a transaction's writes, from one of them back
abbrev pub all_clear_from : Index → TxId → List TxId → ℕ → ℕ → Option ℕ → Bool
all_clear_from x tx listed lsn zero at = true
all_clear_from x tx listed lsn (suc n) at =
    elim (step_at x.writes at) [ None ↦ true | Some s ↦ is_clear_under x tx listed s && all_clear_from x tx listed lsn n s.earlier ]

abbrev pub all_clear : Index → TxId → List TxId → ℕ → Bool
all_clear x tx listed lsn = all_clear_from x tx listed lsn lsn (newest_by x.writes tx)

-- ---- each kind

abbrev pub is_empty : List TxId → Bool
is_empty [] = true
is_empty (t ∷ ts) = false

abbrev pub restart_fits : Index → ℕ → ℕ → Bool
restart_fits x run epoch = is_above run epoch x.last && is_empty x.barring

-- the transaction may write
abbrev pub may_write : Index → TxId → Bool
may_write x tx = is_last_run tx.run x.last && has_no_fate x tx && not (is_before x.restart_at (facts_in x tx).first_update)

-- over what stands at the key, which is to leave the value before
abbrev pub sets_over : Index → TxId → ℕ → Option ValueType → Bool
sets_over x tx key before = same_optional_value before (value_at x.writes key) && may_be_set_over x tx key

abbrev pub update_fits : Index → TxId → ℕ → Option ValueType → Option ValueType → Bool
update_fits x tx key before after = may_write x tx && (is_some before || is_some after) && sets_over x tx key before

abbrev pub adds_over : Index → TxId → ℕ → Bool
adds_over x tx key = is_number (value_at x.writes key) && may_be_added_over x tx key

abbrev pub add_fits : Index → TxId → ℕ → Bool
add_fits x tx key = may_write x tx && adds_over x tx key

-- the list and the set of those whom a PREPARE lists
abbrev pub prepare_fits_by : Index → ℕ → TxId → List TxId → List TxId → Bool
prepare_fits_by x lsn tx predecessors listed =
    is_some x.last && is_after x.restart_at (newest_by x.writes tx) && has_no_fate x tx && list_all (may_be_listed x tx) predecessors
    && all_clear x tx listed lsn

abbrev pub prepare_fits : Index → ℕ → TxId → List TxId → Bool
prepare_fits x lsn tx predecessors = prepare_fits_by x lsn tx predecessors predecessors

abbrev pub home_allows : Index → List LogRecord → TxFacts → TxId → List ℕ → Bool
home_allows x records facts tx parts =
    elim (home_at records facts.prepare) [ None ↦ is_last_run tx.run x.last | Some home ↦ (home == x.shard) || not (some_parts parts) ]

abbrev pub commit_fits : Index → List LogRecord → ℕ → TxId → List ℕ → Bool
commit_fits x records lsn tx parts =
    is_some x.last && not (is_some (facts_in x tx).commit) && not (facts_in x tx).is_aborted && not (nat_in x.shard parts)
    && list_all (has_commit x) (listed_at records (facts_in x tx).prepare) && (is_some (facts_in x tx).prepare || all_clear x tx [] lsn) && home_allows x records (facts_in x tx) tx parts
    && (stands x tx || some_parts parts)

abbrev pub abort_fits : Index → TxId → Bool
abort_fits x tx = is_some x.last && stands x tx && not (is_some (facts_in x tx).commit) && not (facts_in x tx).is_aborted

abbrev pub is_at : ℕ → Option ℕ → Bool
is_at n None = false
is_at n (Some m) = m == n

abbrev pub compensates_write : Index → TxId → Option ℕ → ℕ → Option ValueType → Option Write → Bool
compensates_write x tx undo_next key after None = false
compensates_write x tx undo_next key after (Some w) =
    (w.key == key) && undoes_setting w.change after && is_at w.lsn (top_at x.writes key) && (adds_at x.writes key == 0) && same_option undo_next w.earlier

abbrev pub clr_fits : Index → TxId → Option ℕ → ℕ → Option ValueType → Bool
clr_fits x tx undo_next key after =
    is_some x.last && may_be_undone x tx && compensates_write x tx undo_next key after (write_at x.writes (newest_by x.writes tx))

abbrev pub compensates_add : Index → TxId → Option ℕ → ℕ → ℕ → Option Write → Bool
compensates_add x tx undo_next key by None = false
compensates_add x tx undo_next key by (Some w) =
    (w.key == key) && undoes_adding w.change by && is_below (top_at x.writes key) w.lsn && same_option undo_next w.earlier

abbrev pub unadd_fits : Index → TxId → Option ℕ → ℕ → ℕ → Bool
unadd_fits x tx undo_next key by =
    is_some x.last && may_be_undone x tx && compensates_add x tx undo_next key by (write_at x.writes (newest_by x.writes tx))

abbrev pub end_fits : Index → List LogRecord → TxId → Bool
end_fits x records tx = is_some x.last && not (facts_in x tx).is_ended && some_parts (parts_at records (facts_in x tx).commit)

-- whether the record fits behind those of the index, which are the records below this LSN
abbrev pub fits : Index → List LogRecord → ℕ → LogRecord → Bool
fits x records lsn (Restart run epoch) = restart_fits x run epoch
fits x records lsn (Update tx key before after) = update_fits x tx key before after
fits x records lsn (Clr tx undo_next key after) = clr_fits x tx undo_next key after
fits x records lsn (Prepare tx home predecessors) = prepare_fits x lsn tx predecessors
fits x records lsn (Commit tx parts) = commit_fits x records lsn tx parts
fits x records lsn (Abort tx) = abort_fits x tx
fits x records lsn (End tx) = end_fits x records tx
fits x records lsn (Add tx key by) = add_fits x tx key
fits x records lsn (Unadd tx undo_next key by) = unadd_fits x tx undo_next key by
fits x records lsn Forgotten = false
fits x records lsn (Check run' epoch' upto base) = false
