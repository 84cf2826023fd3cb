-- A log that agrees to its end with one as long is that one; and the log up to the RESTART, by its parts.
use Rattle.std.proofs.Common.{◌≡◌, ℕ, suc, ◌+◌, ◌-◌, ◌&&◌, ◌==◌, nat_le, nat_lt, List, [], ◌∷◌, ◌++◌, take, length, sym, ap, ◌∙◌, arith}
use Rattle.std.proofs.lemmas.Bool.Decides.{nat_tests}
use Rattle.std.proofs.lemmas.List.{append_assoc, length-append, take_at}
use Rattle.std.specs.List.{common_prefix_len, slice_range}
use Rattle.clv_base.specs.declared.logs.LogRecord.{LogRecord}
use Rattle.clv_base.specs.Values.{same_list}
use Rattle.clv_base.specs.LogRules.{same_record as same}
use Rattle.clv_base.specs.State.{Shard}
use Rattle.clv_base.specs.Restarts.{greatest_epoch, next_epoch, undo_records, restarts_up, log_up_to_epoch, is_log_up_to, agrees_up_to}
use Rattle.shard_recovery.specs.Fallen.{IsOf}
use Rattle.shard_recovery.specs.declared.misfits.Fallen.{Fallen}
use Rattle.shard_recovery.proofs.Prefixes.{drop_none, same_by_length, restarts_length}

module _ (f : Fallen) (s : Shard) (is : IsOf f s) (log found : List LogRecord) (epoch : ℕ) where
  abbrev pub before : ℕ
  before = greatest_epoch f.run f.epoch found

  -- what comes before the RESTARTs
  abbrev pub undone : List LogRecord
  undone = found ++ undo_records f.shard found

  abbrev pub up_to : List LogRecord
  up_to = undone ++ restarts_up f.run (suc before) (epoch - before)

  next_is : next_epoch s found ≡ suc before
  next_is = (λ i. suc (greatest_epoch (is.run i) (is.epoch i) found))

  log_is : log_up_to_epoch s found epoch ≡ up_to
  log_is =
      (λ i. found ++ undo_records (is.shard i) found ++ restarts_up (is.run i) (next_is i) (suc epoch - next_is i))
      ∙ ap (λ n. found ++ undo_records f.shard found ++ restarts_up f.run (suc (greatest_epoch f.run f.epoch found)) n) left
    where
      left : suc epoch - suc (greatest_epoch f.run f.epoch found) ≡ epoch - greatest_epoch f.run f.epoch found
      left = omega arith

  pub upto_is : agrees_up_to s log found epoch ≡ common_prefix_len same log up_to
  upto_is = ap (common_prefix_len same log) log_is

  length_is : length up_to ≡ length undone + (epoch - before)
  length_is = length-append undone (restarts_up f.run (suc before) (epoch - before)) ∙ ap (λ n. length undone + n) (restarts_length f.run (suc before) (epoch - before))

  pub whole_is : is_log_up_to s log found epoch ≡ nat_lt before epoch && (common_prefix_len same log up_to == length log) && (length log == length undone + (epoch - before))
  whole_is =
      (λ i. nat_le (next_is i) epoch && same_list same log (log_is i))
      ∙ (λ i. nat_le (suc before) epoch && same_by_length same log up_to i)
      ∙ (λ i. nat_le (suc before) epoch && ((common_prefix_len same log up_to == length log) && (length log == length_is i)))
      ∙ grind (arith, nat_tests)

pub front_is : (rs front undo : List LogRecord) (r : LogRecord) → rs ≡ front ++ (undo ++ r ∷ []) → slice_range rs 0 (length rs - 1) ≡ front ++ undo
front_is rs front undo r is =
    let split : rs ≡ front ++ undo ++ r ∷ [] = is ∙ sym (append_assoc front undo (r ∷ [])) in
    let same_end : length rs - 1 - 0 ≡ length rs - 1 = omega arith in
    let long : length (front ++ undo) ≡ length rs - 1 = omega (arith, ap length split, length-append (front ++ undo) (r ∷ [])) in
    (λ i. take (same_end i) (drop_none same rs i)) ∙ ap (take (length rs - 1)) split ∙ take_at (front ++ undo) (r ∷ []) (length rs - 1) long
