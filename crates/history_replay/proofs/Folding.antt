-- The writes that stand, by the records at their LSNs.
use Rattle.std.proofs.Common.{◌≡◌, ℕ, ◌+◌, ◌-◌, ◌<◌, ◌≤◌, Bool, cond, List, ◌∷◌, Some, map, drop, get_or, length, refl, sym, ap, ◌∙◌, arith}
use Rattle.std.proofs.lemmas.List.{drop_more}
use Rattle.clv_base.specs.declared.names.TxId.{TxId}
use Rattle.clv_base.specs.declared.logs.LogRecord.{LogRecord}
use Rattle.clv_base.specs.declared.changes.Change.{Change}
use Rattle.clv_base.specs.declared.changes.Change.TheVariants.{Sets, Adds}
use Rattle.clv_base.specs.declared.values.Value.{Value as ValueType}
use Rattle.clv_base.specs.Maps.{KeyMap, map_set, with_pairs}
use Rattle.clv_base.specs.Logs.{standing, fold_writes, fold_updates, with_change}
use Rattle.clv_base.specs.OneShard.{update_of}
use Rattle.law_base.proofs.Lists.{elem_at}
use Rattle.log_analysis.specs.Lists.{pairs_at}
use Rattle.log_analysis.proofs.Laws.Bases.{base_first}
use Rattle.log_analysis.proofs.Laws.Standing.{write_inside, write_there}
use Rattle.history_replay.specs.Folds.{with_record}

done_by : (keep : TxId → Bool) (tx : TxId) (key : ℕ) (c : Change) (m : KeyMap) → with_record keep (update_of tx key c) m ≡ cond (keep tx) (with_change key c m) m
done_by keep tx key (Sets before after) m = refl
done_by keep tx key (Adds by) m = refl

pub fold_step : (keep : TxId → Bool) (log : List LogRecord) (lsns : List ℕ) (n : ℕ) (r : LogRecord) (start now next : KeyMap) → lsns ≡ map (λ w. w.lsn) (standing log) → 0 < n → n ≤ length lsns → r ≡ get_or log (get_or lsns (n - 1) 0) r
    → now ≡ fold_writes keep (drop n (standing log)) start → next ≡ with_record keep r now → next ≡ fold_writes keep (drop (n - 1) (standing log)) start
fold_step keep log lsns n r start now next is some within read so_far made =
    let ws = standing log in
    let inside : n - 1 < length ws = write_inside log lsns (n - 1) is (omega arith) in
    let w = get_or ws (n - 1) (elem_at ws (n - 1) inside) in
    let record_is : r ≡ update_of w.tx w.key w.change = read ∙ write_there log lsns (n - 1) is (omega arith) (elem_at ws (n - 1) inside) r in
    let place : (n - 1) + 1 ≡ n = omega arith in
    made
    ∙ ap (λ q. with_record keep q now) record_is
    ∙ done_by keep w.tx w.key w.change now
    ∙ ap (λ m. cond (keep w.tx) (with_change w.key w.change m) m) (so_far ∙ ap (λ k. fold_writes keep (drop k ws) start) (sym place))
    ∙ ap (λ vs. fold_writes keep vs start) (sym (drop_more ws (n - 1) (elem_at ws (n - 1) inside) inside))

-- with one pair more, from the last one on
pub pairs_step : (base : KeyMap) (n : ℕ) (p : ℕ × ValueType) (start now next : KeyMap) → 0 < n → n ≤ length base → p ≡ get_or base (n - 1) p → now ≡ with_pairs (drop n base) start → next ≡ map_set p.0 (Some p.1) now
    → next ≡ with_pairs (drop (n - 1) base) start
pairs_step base n p start now next some within read so_far made =
    let inside : n - 1 < length base = omega arith in
    let place : (n - 1) + 1 ≡ n = omega arith in
    made
    ∙ ap (map_set p.0 (Some p.1)) (so_far ∙ ap (λ k. with_pairs (drop k base) start) (sym place))
    ∙ ap (λ (q : ℕ × ValueType). with_pairs (q ∷ drop ((n - 1) + 1) base) start) read
    ∙ ap (λ l. with_pairs l start) (sym (drop_more base (n - 1) p inside))

-- what the log begins with, and then its writes
pub begun : (keep : TxId → Bool) (log : List LogRecord) (base old mid new : KeyMap) → base ≡ pairs_at log (Some 0) → mid ≡ with_pairs base old → new ≡ fold_writes keep (standing log) mid → new ≡ fold_updates keep log old
begun keep log base old mid new is put made = made ∙ ap (fold_writes keep (standing log)) (put ∙ ap (λ b. with_pairs b old) (is ∙ base_first log))
