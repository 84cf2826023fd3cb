-- What failed restarts add to a log: ABORTs, CLRs, UNADDs and RESTARTs, and none of them of one that is committed or in doubt. So the log stays
-- in order and keeps what it tells.
use Rattle.std.proofs.Common.{◌≡◌, refl, sym, ap, subst, ◌∙◌, ℕ, ◌≤◌, None, length, true, false, Bool, ◌||◌, List, [], ◌∷◌, ◌++◌, append_assoc, append-nil, take-append-drop}
use Rattle.std.specs.Prelude.{take, drop, not}
use Rattle.std.specs.List.{AllByRecursion, list_any}
use Rattle.std.proofs.lemmas.Bool.{both_ways, false_from_ne_true, or_left}
use Rattle.std.proofs.lemmas.List.Folds.{list_any-append}
use Rattle.clv_base.specs.declared.names.TxId.{TxId}
use Rattle.clv_base.specs.declared.logs.LogRecord.{LogRecord}
use Rattle.clv_base.specs.declared.logs.LogRecord.TheVariants.{Update, Commit, End, Add}
use Rattle.clv_base.specs.Orders.{tx_in}
use Rattle.clv_base.specs.State.{Shard}
use Rattle.clv_base.specs.Logs.{is_update_of, is_commit_of, is_end_of, is_abort_of, wrote_in, committed_in, ended_in, aborted_in, has_standing, standing, writers, in_doubt, is_winner}
use Rattle.clv_base.specs.Restarts.{losers, restart_records, next_epoch, FailedRestarts, untouched, failed_first, Restarts}
use Rattle.law_base.proofs.Lists.{all_append}
use Rattle.clv_base.specs.LogRules.{disorder}
use Rattle.law_base.proofs.Parts.{in_order_cut, whole_part}
use Rattle.law_base.proofs.Places.{upto_later, undo_upto}
use Rattle.shard_laws.proofs.Order.RecordByRecord.{Follows}
use Rattle.shard_laws.proofs.Order.WritesLieOnListed.{order_of}
use Rattle.shard_laws.proofs.Cuts.WhoIsInDoubt.{doubted}
use Rattle.shard_laws.proofs.Restarts.WinnersKeepTheirWrites.{Plain, Found, winners, none_update, found_more, loser_out, plain_restart, of_restarts}
use Rattle.shard_laws.proofs.Restarts.RestartsKeepOrder.{Fine, found_self, all_first, fine_failed}
use Rattle.shard_laws.proofs.Order.WhoseWritesStand.{writer_has}
use Rattle.law_base.proofs.Sets.{in_filter}
use Rattle.law_base.proofs.Standing.{stood_before}
use Rattle.history_laws.proofs.LogsLeftPass.WhatPassingRecordsAre.{Passes, restarts_pass}
use Rattle.law_base.proofs.Logs.{IsUndo, Spares, all_take, undo_passes_none as none_of, restart_undoes, restart_spares}

-- ---- the records

-- what takes a write back is of none that passes, where those of whom a write stands in a log and who pass are committed or in doubt there
abbrev pub Keeps : ℕ → List LogRecord → (TxId → Bool) → Type 0
Keeps shard cut keep = (t : TxId) → has_standing cut t ≡ true → keep t ≡ true → is_winner shard cut t ≡ true

record Adds (shard : ℕ) (cut found left : List LogRecord) : Type 0 where
  more : List LogRecord
  goes : found ++ more ≡ left
  kinds : AllByRecursion IsUndo more
  spared : (keep : TxId → Bool) → Keeps shard cut keep → AllByRecursion (Spares keep) more

first_of : (P : LogRecord → Type 0) (n : ℕ) (rs : List LogRecord) → AllByRecursion P rs → AllByRecursion P (take n rs)
first_of P n rs a = all_first P (take n rs) (drop n rs) (subst (AllByRecursion P) (sym (take-append-drop n rs)) a)

-- whose writes a restart takes back doesn't pass
losers_out : (shard : ℕ) (cut found : List LogRecord) (keep : TxId → Bool) → Found shard cut found → ((t : TxId) → has_standing found t ≡ true → has_standing cut t ≡ true) → Keeps shard cut keep → (t : TxId) → tx_in t (losers shard found) ≡ true → keep t ≡ false
losers_out shard cut found keep f back out t i =
    let stands_ = writer_has t (standing found) (in_filter (λ u. not (is_winner shard found u)) t (writers (standing found)) i).0 in
    false_from_ne_true _ (λ k. both_ways _ (loser_out shard found t i) (winners shard cut found t f ∙ out t (back t stands_) k))

added : (s : Shard) (cut found left : List LogRecord) → Found s.shard cut found → ((t : TxId) → has_standing found t ≡ true → has_standing cut t ≡ true) → FailedRestarts s found left → Adds s.shard cut found left
added s cut found _ f back untouched = record { more = []; goes = append-nil found; kinds = tt; spared = λ keep out. tt }
added s cut found left f back (failed_first n g) =
    let epoch = next_epoch s found in
    let rs = restart_records s.shard found s.run epoch in
    let plain = first_of (Plain s.shard found) n rs (plain_restart s.shard found s.run epoch) in
    let r =
    added s cut (found ++ take n rs) left (found_more s.shard cut found (take n rs) f plain) (λ t h. back t (stood_before found (take n rs) t (none_update s.shard found (take n rs) t plain) h)) g in
    record {
      more = take n rs ++ r.more;
      goes = sym (append_assoc found (take n rs) r.more) ∙ r.goes;
      kinds = all_append IsUndo (take n rs) r.more (all_take n rs (restart_undoes s.shard found s.run epoch)) r.kinds;
      spared = λ keep out. all_append (Spares keep) (take n rs) r.more (first_of (Spares keep) n rs (restart_spares keep s.shard found s.run epoch (losers_out s.shard cut found keep f back out))) (r.spared keep out);
    }

-- ---- what a log with such records behind it tells

same_any : (f : LogRecord → Bool) (log more : List LogRecord) → ((r : LogRecord) → IsUndo r → f r ≡ false) → AllByRecursion IsUndo more → list_any f (log ++ more) ≡ list_any f log
same_any f log more k a = list_any-append f log more ∙ ap (λ b. list_any f log || b) (none_of f more k a) ∙ or_nothing (list_any f log)
  where
    or_nothing : (b : Bool) → (b || false) ≡ b
    or_nothing true = refl
    or_nothing false = refl

pub same_wrote : (log more : List LogRecord) (t : TxId) → AllByRecursion IsUndo more → wrote_in (log ++ more) t ≡ wrote_in log t
same_wrote log more t a = same_any (is_update_of t) log more one a
  where
    one : (r : LogRecord) → IsUndo r → is_update_of t r ≡ false
    one (Update tx k b v) u = absurd u
    one (Add tx k by) u = absurd u
    one _ u = refl

pub same_committed : (log more : List LogRecord) (t : TxId) → AllByRecursion IsUndo more → committed_in (log ++ more) t ≡ committed_in log t
same_committed log more t a = same_any (is_commit_of t) log more one a
  where
    one : (r : LogRecord) → IsUndo r → is_commit_of t r ≡ false
    one (Commit tx ps) u = absurd u
    one _ u = refl

pub same_ended : (log more : List LogRecord) (t : TxId) → AllByRecursion IsUndo more → ended_in (log ++ more) t ≡ ended_in log t
same_ended log more t a = same_any (is_end_of t) log more one a
  where
    one : (r : LogRecord) → IsUndo r → is_end_of t r ≡ false
    one (End tx) u = absurd u
    one _ u = refl

-- ---- a log and what failed restarts left of it

-- the second goes on from the first with such records, in order and by the file rules, and aborts none that was in doubt
pub record Stays (splits : List ℕ) (shard : ℕ) (cut log : List LogRecord) : Type 0 where
  pub more : List LogRecord
  pub goes : cut ++ more ≡ log
  pub kinds : AllByRecursion IsUndo more
  pub spared : (keep : TxId → Bool) → Keeps shard cut keep → AllByRecursion (Spares keep) more
  pub in_order : disorder shard log ≡ None
  pub behind : Follows shard cut more
  pub passes : Passes splits shard log
  pub spares : (t : TxId) → tx_in t (in_doubt shard cut) ≡ true → aborted_in log t ≡ false

pub stays_same : (splits : List ℕ) (shard : ℕ) (log : List LogRecord) → disorder shard log ≡ None → Passes splits shard log → Stays splits shard log log
stays_same splits shard log f p = record {
  more = [];
  goes = append-nil log;
  kinds = tt;
  spared = λ keep out. tt;
  in_order = f;
  behind = tt;
  passes = p;
  spares = λ t i. (doubted shard log t (order_of shard log f).sealed i).unaborted;
}

passes_first : (splits : List ℕ) (n : ℕ) (xs ys : List LogRecord) → Passes splits n (xs ++ ys) → Passes splits n xs
passes_first splits n [] ys a = tt
passes_first splits n (x ∷ xs) ys a = (a.0, passes_first splits n xs ys a.1)

-- one more that is whole would go on from it
pub stays_failed : (splits : List ℕ) (s : Shard) (cut log : List LogRecord) → Fine s cut → Passes splits s.shard cut → FailedRestarts s cut log → Stays splits s.shard cut log
stays_failed splits s cut log x p f =
    let epoch = next_epoch s log in
    let rs = restart_records s.shard log s.run epoch in
    let r : Restarts s cut epoch (log ++ rs) = (log, f, refl, refl) in
    let k = (of_restarts s cut cut epoch (log ++ rs) (found_self s.shard cut (order_of s.shard cut x.0)) r).found in
    let a = added s cut cut log (found_self s.shard cut (order_of s.shard cut x.0)) (λ t h. h) f in
    let own : disorder s.shard log ≡ None = (fine_failed s cut log x f).0 in
    record {
      more = a.more;
      goes = a.goes;
      kinds = a.kinds;
      spared = a.spared;
      in_order = own;
      behind = (in_order_cut s.shard cut a.more (subst (λ n. n ≤ length cut) (sym (upto_later cut a.more (undo_upto a.more a.kinds))) (whole_part s.shard cut x.0)) (subst (λ z. disorder s.shard z ≡ None) (sym a.goes) own)).1;
      passes = passes_first splits s.shard log rs (restarts_pass splits s.shard s cut epoch (log ++ rs) r p);
      spares = λ t i. false_from_ne_true _ (λ z.
          both_ways _ (doubted s.shard (log ++ rs) t k.sealed (subst (λ l. tx_in t l ≡ true) (sym k.doubts) i)).unaborted (list_any-append (is_abort_of t) log rs ∙ or_left _ _ z));
    }
