-- The logs that a crash leaves of a history pass.
pub mod SessionsOfferOwnKeys
pub mod WhatPassingRecordsAre
pub mod EventsWritePassing
use Rattle.std.proofs.Common.{◌≡◌, refl, sym, subst, ◌∙◌, ℕ, zero, suc, ◌+◌, ◌<◌, ◌≤◌, true, Bool, List, [], ◌∷◌, ◌++◌, length, arith}
use Rattle.std.specs.Prelude.{is_none}
use Rattle.std.specs.List.{list_all}
use Rattle.std.proofs.lemmas.Bool.{and_parts, and_from}
use Rattle.clv_base.specs.declared.logs.LogRecord.{LogRecord}
use Rattle.clv_base.specs.declared.events.Event.{Event}
use Rattle.clv_base.specs.declared.events.Event.TheVariants.{Deliver}
use Rattle.clv_base.specs.Shards.{shard_count}
use Rattle.clv_base.specs.LogRules.{log_of, all_logs_from, disorder, apart}
use Rattle.clv_base.specs.FileRules.{passes_file_rules, log_passes, may_open}
use Rattle.clv_base.specs.State.{Shard}
use Rattle.clv_base.specs.Restarts.{run_after, log_left}
use Rattle.clv_base.specs.Journals.{History, start_of, final_of, logs_left_from}
use Rattle.clv_base.specs.History.{Legal, WasSent, logs_left}
use Rattle.law_base.proofs.Restarts.{left_length as length_from}
use Rattle.history_cases.proofs.Merging.{Placed, is_among}
use Rattle.history_cases.proofs.Worlds.{state_at}
use Rattle.history_cases.proofs.Durability.{Counted, fronts_entry, opened_counted}
use Rattle.history_laws.specs.Openings.{LegalFrom}
use Rattle.history_laws.specs.Passing.{LogsLeftPass}
use Rattle.history_laws.proofs.Logs.FoundLogsInOrder.{log_found}
use Rattle.history_laws.proofs.Entries.WalkedEntryByEntry.{Walked, Steps, walked}
use Rattle.history_laws.proofs.LogsLeftPass.SessionsOfferOwnKeys.{OffersBy, offered}
use Rattle.history_laws.proofs.LogsLeftPass.WhatPassingRecordsAre.{Passes, passes_all, passes_front, all_pass}
use Rattle.history_laws.proofs.LogsLeftPass.EventsWritePassing.{BringsNames, SendsNames, Filed, filed_entry, sends_entry, filed_opened}

-- ---- the logs at opening

log_at : (splits : List ℕ) (i n : ℕ) (logs : List (List LogRecord)) → all_logs_from i (log_passes splits) logs ≡ true → n < length logs → list_all (passes_file_rules splits (i + n)) (log_of logs n) ≡ true
log_at splits i n [] e l = absurd (omega (arith, l))
log_at splits i zero (log ∷ logs) e l =
    subst (λ k. list_all (passes_file_rules splits k) log ≡ true) (omega arith)
    (and_parts (list_all (passes_file_rules splits i) log) (is_none (disorder i log)) (and_parts (log_passes splits i log) (all_logs_from (suc i) (log_passes splits) logs) e).0).0
log_at splits i (suc n) (log ∷ logs) e l =
    subst (λ k. list_all (passes_file_rules splits k) (log_of logs n) ≡ true) (omega arith)
    (log_at splits (suc i) n logs (and_parts (log_passes splits i log) (all_logs_from (suc i) (log_passes splits) logs) e).1 (omega (arith, l)))

found_passes : (splits : List ℕ) (before : List (List LogRecord)) (n : ℕ) → may_open splits before ≡ true → n < length before → Passes splits n (log_of before n)
found_passes splits before n m l =
    passes_all splits n (log_of before n) (subst (λ k. list_all (passes_file_rules splits k) (log_of before n) ≡ true) (omega arith) (log_at splits 0 n before (and_parts (all_logs_from 0 (log_passes splits) before) (is_none (apart before)) m).0 l))

-- ---- along the history

abbrev FiledAt : List ℕ → History → ℕ → Shard → Type 0
FiledAt splits pre n s = (s.shard ≡ n) × Counted s × Filed splits s

abbrev Told : List ℕ → Placed → Type 0
Told splits e = SendsNames splits (e.1).outcome

brought : (splits : List ℕ) (before after : List (List LogRecord)) (pre : History) → Walked (FiledAt splits) (Told splits) splits before after pre → (e : Event) → WasSent pre e → BringsNames splits e
brought splits before after pre w (Deliver m stamp) (n, x, i, s, o) = subst (SendsNames splits) o (w.said (n, x) (is_among n x pre i))
brought splits before after pre w _ s = tt

steps : (splits : List ℕ) (before after : List (List LogRecord)) (h : History) → Legal splits before h after → Steps (FiledAt splits) (Told splits) splits before after h
steps splits before after h l pre e w x =
    let s = state_at before after e.0 pre in
    let p : FiledAt splits pre e.0 s = w.states e.0 x.below in
    let o : OffersBy splits s.shard (e.1).event (e.1).outcome = subst (λ n. OffersBy splits n (e.1).event (e.1).outcome) (sym p.0) (offered splits before after h e l (x.behind).here) in
    let f = filed_entry splits (log_of after e.0) s e.1 (x.split).enters o (brought splits before after pre w (e.1).event x.sent) p.2 in
    let c = fronts_entry (log_of after e.0) s e.1 p.1 (x.split).enters in
    (subst (FiledAt splits (pre ++ e ∷ []) e.0) (sym (x.split).next) (c.shard ∙ p.0, c.counted, f), sends_entry splits (log_of after e.0) s e.1 (x.split).enters p.2, (λ n m d q. q))

opens : {splits : List ℕ} {before after : List (List LogRecord)} {h : History} → LegalFrom splits before h after → (n : ℕ) → n < shard_count splits → FiledAt splits [] n (start_of before n)
opens {splits} {before} l n i = (refl, opened_counted n (run_after before) (log_of before n), filed_opened splits n (run_after before) (log_of before n) i (found_passes splits before n l.opens (log_found l n i)))

-- ---- the logs left

-- a log for each shard
pub left_length : (splits : List ℕ) (before : List (List LogRecord)) (h : History) (after : List (List LogRecord)) (choice : ℕ → Bool) → length (logs_left splits before h after choice) ≡ shard_count splits
left_length splits before h after choice = length_from (final_of before h after) choice 0 (shard_count splits)

left_from : (splits : List ℕ) (finals : ℕ → Shard) (choice : ℕ → Bool) (n k : ℕ) → ((m : ℕ) → n ≤ m → m < n + k → FiledAt splits [] m (finals m)) → all_logs_from n (λ m log. list_all (passes_file_rules splits m) log) (logs_left_from finals choice n k) ≡ true
left_from splits finals choice n zero h = refl
left_from splits finals choice n (suc k) h =
    let p = h n (omega arith) (omega arith) in
    and_from (list_all (passes_file_rules splits n) (log_left (finals n) (choice n))) _
    (subst (λ m. list_all (passes_file_rules splits m) (log_left (finals n) (choice n)) ≡ true) p.0
    (all_pass splits (finals n).shard (log_left (finals n) (choice n)) (passes_front splits (finals n).shard _ (finals n).local.log (p.2).log)))
    (left_from splits finals choice (suc n) k (λ m a b. h m (omega (arith, a)) (omega (arith, b))))

pub logs_left_pass : LogsLeftPass
logs_left_pass splits before h after choice l =
    let w = walked (FiledAt splits) (Told splits) splits before after h l.legal (opens l) (steps splits before after h l.legal) in
    left_from splits (final_of before h after) choice 0 (shard_count splits) (λ n a b. w.states n (omega (arith, b)))
