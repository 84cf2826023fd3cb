-- What a crash leaves may be opened.
pub mod LogsAgreeByHomes
pub mod FrontsTellHomes
pub mod LeftLogsGoOn
pub mod EarlierCommitsKeepHomes
pub mod CommitsKeepTheirHomes
use Rattle.std.proofs.Common.{◌≡◌, inl, inr, ap, subst, ℕ, ◌+◌, ◌<◌, true, Bool, List, [], length, arith, append-nil}
use Rattle.std.specs.Prelude.{is_none}
use Rattle.std.specs.List.{list_all}
use Rattle.std.proofs.lemmas.Bool.{and_from}
use Rattle.clv_base.specs.declared.names.TxId.{TxId}
use Rattle.clv_base.specs.declared.logs.LogRecord.{LogRecord}
use Rattle.clv_base.specs.Shards.{shard_count}
use Rattle.clv_base.specs.LogRules.{log_of, all_logs_from, disorder}
use Rattle.clv_base.specs.FileRules.{log_passes, passes_file_rules}
use Rattle.clv_base.specs.Restarts.{run_after}
use Rattle.clv_base.specs.Journals.{History, final_of}
use Rattle.clv_base.specs.History.{logs_left}
use Rattle.protocol_laws.specs.SessionLaws.{tx_of}
use Rattle.history_laws.specs.Openings.{LegalFrom}
use Rattle.history_laws.proofs.NeverTakenBack.{walker_of}
use Rattle.history_cases.proofs.Worlds.{in_a_shard}
use Rattle.history_cases.proofs.Merging.{is_among}
use Rattle.fate_laws.proofs.History.EntriesInTurn.{Requested}
use Rattle.fate_laws.proofs.Origins.DueKeepsOrigins.{SomeRequest}
use Rattle.fate_laws.proofs.Origins.FrontsKeepOrigins.{DidOrOld, IsOld, traced_front}
use Rattle.fate_laws.specs.Decisions.{is_left}
use Rattle.fate_laws.proofs.Homes.DecidedStaysDecided.{left_committed, commits_stand_at_home}
use Rattle.history_laws.proofs.LogsLeftPass.{logs_left_pass, left_length}
use Rattle.headline_laws.proofs.EndedAreCommitted.EndsStandBehindCommits.{parts_there}
use Rattle.fate_laws.proofs.LogsLeftAreInOrder.{logs_left_are_in_order}
use Rattle.fate_laws.proofs.EachShardLeads.RecordsTellTheirOrigin.{committed_from}
use Rattle.headline_laws.specs.Reopening.{LogsLeftAgree, LogsLeftMayBeOpened}
use Rattle.headline_laws.proofs.LogsLeftMayBeOpened.LogsAgreeByHomes.{HasHome, agree}
use Rattle.headline_laws.proofs.LogsLeftMayBeOpened.LeftLogsGoOn.{InOrder}
use Rattle.headline_laws.proofs.LogsLeftMayBeOpened.EarlierCommitsKeepHomes.{earlier_home}
use Rattle.headline_laws.proofs.LogsLeftMayBeOpened.CommitsKeepTheirHomes.{home_here}
use Rattle.law_base.proofs.Logs.{passes_at as each_passes, all_logs}

module _ {splits : List ℕ} {before after : List (List LogRecord)} {h : History} (l : LegalFrom splits before h after) (choice : ℕ → Bool)
    (orders : InOrder splits before h after choice) where
  abbrev left : List (List LogRecord)
  left = logs_left splits before h after choice

  here : (n : ℕ) (t : TxId) → n < shard_count splits → t.run ≡ run_after before → is_left splits before h after choice n t ≡ true → HasHome left t
  here n t i r w =
      let z = commits_stand_at_home splits before h after choice n t l i r w in
      let b = z.1 in
      let p = parts_there (log_of left z.0) t z.2 in
      let j = in_a_shard splits before after h (z.0, b.0) l.legal (is_among z.0 b.0 h b.2) in
      let e = left_length splits before h after choice in
      (z.0, omega (arith, j, e), p.0, home_here l choice z.0 b.0 b.1 t p.0 orders b.2 b.3 b.4 p.1)

  has_home : (n : ℕ) (t : TxId) → n < shard_count splits → is_left splits before h after choice n t ≡ true → HasHome left t
  has_home n t i w =
      by_run
      (committed_from (DidOrOld (run_after before) h n) (Requested h) (IsOld (run_after before)) n (final_of before h after n).local.log (((traced_front l h [] (append-nil h)).states n i).origins).log t
      (left_committed splits before h after choice n t i w))
    where
      by_run : SomeRequest (Requested h) (IsOld (run_after before)) t → HasHome left t
      by_run (inl (k, (r, ts, j, q, p))) = here n t i (walker_of splits before after h r t l.legal j (ap tx_of q.0)).0 w
      by_run (inr old) = earlier_home l choice t orders old n i w

in_order : {splits : List ℕ} {before after : List (List LogRecord)} {h : History} → LegalFrom splits before h after → (choice : ℕ → Bool) → InOrder splits before h after choice
in_order {splits} {before} {after} {h} l choice n i = logs_left_are_in_order splits before h after choice n l i

pub logs_left_agree : LogsLeftAgree
logs_left_agree splits before h after choice l =
    agree (logs_left splits before h after choice) (λ n t i w. has_home l choice (in_order l choice) n t (let e = left_length splits before h after choice in omega (arith, i, e)) w)

pub logs_left_may_be_opened : LogsLeftMayBeOpened
logs_left_may_be_opened splits before h after choice l =
    let left = logs_left splits before h after choice in
    and_from (all_logs_from 0 (log_passes splits) left) _ (all_logs (log_passes splits) 0 left one) (ap is_none (logs_left_agree splits before h after choice l))
  where
    one : (n : ℕ) → n < length (logs_left splits before h after choice) → log_passes splits (0 + n) (log_of (logs_left splits before h after choice) n) ≡ true
    one n i =
        let left = logs_left splits before h after choice in
        let e = left_length splits before h after choice in
        let j : n < shard_count splits = omega (arith, i, e) in
        and_from _ _ (each_passes (λ k log. list_all (passes_file_rules splits k) log) 0 n left (logs_left_pass splits before h after choice l) i)
        (subst (λ k. is_none (disorder k (log_of left n)) ≡ true) (omega arith) (ap is_none (in_order l choice n j)))
