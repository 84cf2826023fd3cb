-- What each change keeps.
pub mod UndoIsSpelled
mod RowsAreSpelled
mod ListsAreSpelled
use Rattle.std.proofs.Common.{◌≡◌, ◌<◌, ◌^◌, refl, sym, subst, ℕ, Bool, true, false, not, List, [], ◌∷◌, ◌++◌, length, Option, Some, None, arith}
use Rattle.std.specs.List.{AllByRecursion, filter, list_all}
use Rattle.std.proofs.lemmas.Bool.{cond_both, and_parts, and_from}
use Rattle.clv_base.specs.Values.{fits_value}
use Rattle.clv_base.specs.declared.values.Value.{Value as ValueType}
use Rattle.clv_base.specs.declared.values.Value.TheVariants.{Num, Bytes}
use Rattle.clv_base.specs.declared.names.TxId.{TxId}
use Rattle.clv_base.specs.declared.names.Birth.{Birth}
use Rattle.clv_base.specs.declared.ops.Op.{Op}
use Rattle.clv_base.specs.declared.ops.Op.TheVariants.{Get, Put, Del, Scan}
use Rattle.clv_base.specs.declared.ops.Op.TheVariants as operations
use Rattle.clv_base.specs.declared.logs.LogRecord.{LogRecord}
use Rattle.clv_base.specs.declared.changes.Change.{Change}
use Rattle.clv_base.specs.declared.changes.Change.TheVariants.{Sets, Adds}
use Rattle.clv_base.specs.Orders.{tx_in}
use Rattle.clv_base.specs.FileRules.{has_spelling, tx_has_spelling, is_64_bits, is_value}
use Rattle.clv_base.specs.Logs.{changed, has_standing, standing, in_doubt, is_winner}
use Rattle.clv_base.specs.Locks.{violated, take_all}
use Rattle.clv_base.specs.Needs.{found_at, key_of, needs_of, inserts, writes_of, value_at, is_locked_or_live}
use Rattle.clv_base.specs.State.{Local, is_present}
use Rattle.clv_base.specs.Facts.{undecided_of}
use Rattle.clv_base.specs.Undo.{stage_of, doomed_here, is_of, aborts_of, clrs_by, clrs_of, newest_lsns, is_at, undo}
use Rattle.clv_base.specs.OneShard.{update_of, violated_here, locked, written, closing, without_part, rolled_back_if, drop_part}
use Rattle.protocol_laws.specs.Spelled.{IsSpelled, fits_op, OperationsKeep, ClosingsKeep, AbortsKeep, DropsKeep, RollsKeep, EndsKeep, RecordsKeep, PurgesKeep, RestartsAreSpelled}
use Rattle.protocol_laws.proofs.ChangesKeepSpelling.UndoIsSpelled.{change_fits, changed_fits, fit_standing, clrs_spelled_by, clrs_spelled, Named, aborts_spelled}
use Rattle.protocol_laws.proofs.ChangesKeepSpelling.RowsAreSpelled.{takes_named, inserts_named, close_named, release_named, violated_are_named, restored_named, add_seconds, set_value, value_fits, undone_values}
use Rattle.protocol_laws.proofs.ChangesKeepSpelling.ListsAreSpelled.{stands_named, undecided_spelled, restored_seconds, restored_values}
use Rattle.law_base.proofs.Lists.{all_kept as all_filter}
use Rattle.law_base.proofs.Logs.{spelled_append as all_append}

-- ---- an operation

IsFitWrite : Option (ℕ × Change) → Type 0
IsFitWrite None = Unit {0}
IsFitWrite (Some w) = (is_64_bits w.0 ≡ true) × (change_fits w.1 ≡ true)

write_fits : (op : Op) (before : Option ValueType) → fits_op op ≡ true → is_value before ≡ true → IsFitWrite (writes_of op before)
unfolding IsFitWrite
write_fits (Get k) before h b = tt
write_fits (Put k v) before h b = let two = and_parts (is_64_bits k) (fits_value v) h in (two.0, and_from _ _ b two.1)
write_fits (Del k) None h b = tt
write_fits (Del k) (Some w) h b = (h, and_from _ _ b refl)
write_fits (Scan lo hi) before h b = tt
write_fits (operations.Add k by) None h b = tt
write_fits (operations.Add k by) (Some (Num v)) h b = and_parts (is_64_bits k) (is_64_bits by) h
write_fits (operations.Add k by) (Some (Bytes bytes)) h b = tt

locked_spelled : (tx : TxId) (birth : Birth) (op : Op) (l : Local) → tx_has_spelling tx ≡ true → IsSpelled l → IsSpelled (locked tx birth op l)
locked_spelled tx birth op l n s = record {
  log = s.log;
  holders =
      inserts_named tx birth l.records (inserts op (found_at (key_of op) l.records)) (take_all tx birth (needs_of op l.records) l.locks) n (takes_named tx birth (needs_of op l.records) l.locks n s.holders);
  predecessors = add_seconds tx (violated_here l tx op) l.pairs
      (all_filter (λ t. tx_has_spelling t ≡ true) (has_standing l.log) (violated tx (needs_of op l.records) l.locks) (violated_are_named tx (needs_of op l.records) l.locks s.holders)) s.predecessors;
  values = s.values;
}

update_spelled : (tx : TxId) (key : ℕ) (change : Change) → tx_has_spelling tx ≡ true → is_64_bits key ≡ true → change_fits change ≡ true → has_spelling (update_of tx key change) ≡ true
update_spelled tx key (Sets before after) n k f = let two = and_parts (is_value before) (is_value after) f in and_from _ _ (and_from _ _ (and_from _ _ n k) two.0) two.1
update_spelled tx key (Adds by) n k f = and_from _ _ (and_from _ _ n k) f

written_spelled : (tx : TxId) (w : Option (ℕ × Change)) (l : Local) → tx_has_spelling tx ≡ true → IsFitWrite w → IsSpelled l → IsSpelled (written tx w l)
unfolding IsFitWrite
written_spelled tx None l n f s = s
written_spelled tx (Some w) l n f s = record {
  log = all_append l.log (update_of tx w.0 w.1 ∷ []) s.log (and_from _ _ (update_spelled tx w.0 w.1 n f.0 f.1) refl);
  holders = s.holders;
  predecessors = s.predecessors;
  values = set_value w.0 (changed w.1 (value_at w.0 l.records)) l.records (changed_fits w.1 (value_at w.0 l.records) f.1 (value_fits w.0 l.records s.values)) s.values;
}

pub operations_keep : OperationsKeep
operations_keep tx birth op l n f s =
    written_spelled tx (writes_of op (value_at (key_of op) l.records)) (locked tx birth op l) n (write_fits op (value_at (key_of op) l.records) f (value_fits (key_of op) l.records s.values)) (locked_spelled tx birth op l n s)

-- ---- closing a part

pub closings_keep : ClosingsKeep
closings_keep tx home one l h few s = record {
  log = all_append l.log (closing (has_standing l.log tx) one tx home (undecided_of l tx)) s.log (undecided_spelled l.log l.pairs tx home one s.log s.predecessors h few);
  holders = close_named tx l.locks s.holders;
  predecessors = s.predecessors;
  values = s.values;
}

-- ---- the end of parts

pub ends_keep : EndsKeep
ends_keep txs doom l s = record {
  log = s.log;
  holders = release_named txs l.locks s.holders;
  predecessors = all_filter (λ p. tx_has_spelling p.1 ≡ true) (λ p. not (tx_in p.0 txs)) l.pairs s.predecessors;
  values = s.values;
}

pub records_keep : RecordsKeep
records_keep more l h s = record { log = all_append l.log more s.log h; holders = s.holders; predecessors = s.predecessors; values = s.values }

pub purges_keep : PurgesKeep
purges_keep l s = record { log = s.log; holders = s.holders; predecessors = s.predecessors; values = all_filter (λ r. is_value r.1 ≡ true) (is_locked_or_live l.locks) l.records s.values }

-- ---- an abort

writers_named : (log : List LogRecord) (ts : List TxId) → list_all has_spelling log ≡ true → Named (filter (has_standing log) ts)
writers_named log [] h = tt
writers_named log (t ∷ ts) h =
    cond_both (has_standing log t) (t ∷ filter (has_standing log) ts) (filter (has_standing log) ts) Named (λ w. (stands_named log t h w, writers_named log ts h)) (λ w. writers_named log ts h)

undone : (set : List TxId) (l : Local) → length l.log < 2 ^ 64 → IsSpelled l → IsSpelled (undo set l)
undone set l few s = record {
  log =
      all_append (l.log ++ aborts_of l.log set) (clrs_of set (standing l.log)) (all_append l.log (aborts_of l.log set) s.log (aborts_spelled (filter (has_standing l.log) set) (writers_named l.log set s.log)))
      (clrs_spelled (length l.log) set (standing l.log) (omega (arith, few)) (fit_standing l.log s.log));
  holders = s.holders;
  predecessors = s.predecessors;
  values = undone_values (is_of set) (length l.log) (standing l.log) l.records (fit_standing l.log s.log) s.values;
}

pub aborts_keep : AbortsKeep
aborts_keep tx l few s = ends_keep (doomed_here l tx) (Some tx) (undo (doomed_here l tx) l) (undone (doomed_here l tx) l few s)

rolled_if : (b : Bool) (tx : TxId) (l : Local) → length l.log < 2 ^ 64 → IsSpelled l → IsSpelled (rolled_back_if b tx l)
rolled_if true tx l few s = aborts_keep tx l few s
rolled_if false tx l few s = s

marked : (l m : Local) → IsSpelled l → m.log ≡ l.log → m.locks ≡ l.locks → m.pairs ≡ l.pairs → m.records ≡ l.records → IsSpelled m
marked l m s a b c d = record {
  log = subst (λ x. list_all has_spelling x ≡ true) (sym a) s.log;
  holders = subst (AllByRecursion (λ r. tx_has_spelling (r.1).tx ≡ true)) (sym b) s.holders;
  predecessors = subst (AllByRecursion (λ p. tx_has_spelling p.1 ≡ true)) (sym c) s.predecessors;
  values = subst (AllByRecursion (λ r. is_value r.1 ≡ true)) (sym d) s.values;
}

pub drops_keep : DropsKeep
drops_keep tx l few s = marked (without_part tx l) (drop_part tx l) (rolled_if (is_present (stage_of l tx)) tx l few s) refl refl refl refl

-- ---- a going back

pub rolls_keep : RollsKeep
rolls_keep tx n l few s =
    let gone = is_at (newest_lsns n tx (standing l.log)) in
    record {
      log = all_append l.log (clrs_by gone (standing l.log)) s.log (clrs_spelled_by (length l.log) gone (standing l.log) (omega (arith, few)) (fit_standing l.log s.log));
      holders = s.holders;
      predecessors = s.predecessors;
      values = undone_values gone (length l.log) (standing l.log) l.records (fit_standing l.log s.log) s.values;
    }

-- ---- a restart

pub restarts_are_spelled : RestartsAreSpelled
restarts_are_spelled shard epoch log h = record {
  log = h;
  holders = restored_named (length log) (in_doubt shard log) (standing log) [] (fit_standing log h) tt;
  predecessors = restored_seconds log (in_doubt shard log) h;
  values = restored_values (in_doubt shard log) (is_winner shard log) log h;
}
