-- What each stream has of the map that is shown.
use Rattle.std.proofs.Common.{◌≡◌, ℕ, zero, suc, ◌+◌, ◌<◌, ◌≤◌, arith, Bool, true, false, ◌&&◌, List, [], ◌∷◌, length, None, refl, sym, ap, ◌∙◌}
use Rattle.std.specs.List.{list_all, filter}
use Rattle.std.proofs.lemmas.Bool.{and_parts, false_from_ne_true}
use Rattle.clv_base.specs.declared.names.TxId.{TxId}
use Rattle.clv_base.specs.declared.logs.LogRecord.{LogRecord}
use Rattle.clv_base.specs.Orders.{tx_in}
use Rattle.clv_base.specs.Maps.{KeyMap, map_get, with_pairs}
use Rattle.clv_base.specs.Logs.{committed_in, standing, base_of, fold_at, fold_updates}
use Rattle.clv_base.specs.LogRules.{log_of, all_logs_from}
use Rattle.clv_base.specs.FileRules.{passes_file_rules}
use Rattle.clv_base.specs.Folding.{IsRising}
use Rattle.clv_base.specs.Shards.{shard_count, are_splits, in_span}
use Rattle.law_base.proofs.Bases.{value_or, get_with}
use Rattle.law_base.proofs.Logs.{fold_rises}
use Rattle.serial_laws.specs.Shares.{HasShares}
use Rattle.serial_laws.proofs.ReplayByShards.SpansShareNoKey.{one_shard}
use Rattle.shard_laws.proofs.Cuts.WhatCutsHold.{of_kept, fold_values}
use Rattle.headline_laws.proofs.TransactionsReplayByShards.LogsAgreeWithMap.{fold_away}
use Rattle.standby_base.specs.Standby.{shown_from}

-- who passes on a stream
abbrev pub passes_on : List TxId → List LogRecord → TxId → Bool
passes_on set log t = tx_in t set && committed_in log t

abbrev pub share_shown : List TxId → List (List LogRecord) → ℕ → KeyMap
share_shown set streams n = fold_updates (λ t. tx_in t set && committed_in (log_of streams n) t) (log_of streams n) []

-- a key without a value before has that of the log alone
alone : (keep : TxId → Bool) (log : List LogRecord) (m : KeyMap) (k : ℕ) → map_get k m ≡ None → map_get k (fold_updates keep log m) ≡ map_get k (fold_updates keep log [])
alone keep log m k e =
    fold_values keep (standing log) (with_pairs (base_of log) m) k
    ∙ ap (λ o. fold_at k o (filter (of_kept keep) (standing log))) (get_with (base_of log) m k ∙ ap (value_or (map_get k (base_of log))) e ∙ sym (get_with (base_of log) [] k))
    ∙ sym (fold_values keep (standing log) (with_pairs (base_of log) []) k)

abbrev pub Pass : List ℕ → ℕ → List (List LogRecord) → Type 0
Pass splits i logs = all_logs_from i (λ n log. list_all (passes_file_rules splits n) log) logs ≡ true

module _ (splits : List ℕ) (set : List TxId) where
  all_rise : (logs : List (List LogRecord)) (m : KeyMap) → IsRising m → IsRising (shown_from set logs m)
  all_rise [] m h = h
  all_rise (log ∷ logs) m h = all_rise logs (fold_updates (passes_on set log) log m) (fold_rises (passes_on set log) log m h)

  all_away : (i : ℕ) (logs : List (List LogRecord)) (k : ℕ) (m : KeyMap) → Pass splits i logs → ((j : ℕ) → i ≤ j → j < i + length logs → in_span splits j k ≡ false) → map_get k (shown_from set logs m) ≡ map_get k m
  all_away i [] k m p none = refl
  all_away i (log ∷ logs) k m p none =
      let q = and_parts (list_all (passes_file_rules splits i) log) _ p in
      all_away (suc i) logs k (fold_updates (passes_on set log) log m) q.1 (λ j a b. none j (omega (arith, a)) (omega (arith, b)))
      ∙ fold_away splits i (passes_on set log) log k m q.0 (none i (omega arith) (omega arith))

  not_another : (n j k : ℕ) → are_splits splits ≡ true → n < shard_count splits → j < shard_count splits → in_span splits n k ≡ true → (n ≡ j → ⊥) → in_span splits j k ≡ false
  not_another n j k s a b e d = false_from_ne_true (in_span splits j k) (λ h. d (one_shard splits n j k s a b e h))

  all_values : (i d n : ℕ) (logs : List (List LogRecord)) (k : ℕ) (m : KeyMap) → are_splits splits ≡ true → Pass splits i logs → i + length logs ≡ shard_count splits → n < shard_count splits → n ≡ i + d → in_span splits n k ≡ true → map_get k m ≡ None
      → map_get k (shown_from set logs m) ≡ map_get k (fold_updates (λ t. tx_in t set && committed_in (log_of logs d) t) (log_of logs d) [])
  all_values i d n [] k m s p c l q e none = absurd (omega (arith, c, l, q))
  all_values i zero n (log ∷ logs) k m s p c l q e none =
      let r = and_parts (list_all (passes_file_rules splits i) log) _ p in
      all_away (suc i) logs k (fold_updates (passes_on set log) log m) r.1 (λ j a b. not_another n j k s l (omega (arith, b, c)) e (λ h. omega (arith, a, h, q)))
      ∙ alone (passes_on set log) log m k none
  all_values i (suc d) n (log ∷ logs) k m s p c l q e none =
      let r = and_parts (list_all (passes_file_rules splits i) log) _ p in
      all_values (suc i) d n logs k (fold_updates (passes_on set log) log m) s r.1 (omega (arith, c)) l (omega (arith, q)) e
      (fold_away splits i (passes_on set log) log k m r.0 (not_another n i k s l (omega (arith, l, q)) e (λ h. omega (arith, h, q))) ∙ none)

  pub shown_shares : (streams : List (List LogRecord)) → are_splits splits ≡ true → length streams ≡ shard_count splits → Pass splits 0 streams → HasShares splits (shown_from set streams []) (share_shown set streams)
  shown_shares streams s c p = record {
    whole_rises = all_rise streams [] tt;
    shares_rise = λ n l. fold_rises (passes_on set (log_of streams n)) (log_of streams n) [] tt;
    values = λ n k l e. all_values 0 n n streams k [] s p (omega (arith, c)) l (omega arith) e refl;
    nowhere = λ k none. all_away 0 streams k [] p (λ j x y. none j (omega (arith, y, c)));
  }
