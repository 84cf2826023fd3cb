-- A log in order has COMMITs of its own runs alone, and so none of a run that opens it.
use Rattle.std.proofs.Common.{◌≡◌, ℕ, zero, suc, ◌+◌, ◌<◌, true, List, [], ◌∷◌, is_none, length, arith}
use Rattle.std.specs.List.{list_all}
use Rattle.std.proofs.lemmas.Bool.{and_parts}
use Rattle.clv_base.specs.declared.names.TxId.{TxId}
use Rattle.clv_base.specs.declared.logs.LogRecord.{LogRecord}
use Rattle.clv_base.specs.Logs.{committed_in, is_commit_of}
use Rattle.clv_base.specs.LogRules.{disorder, log_of, all_logs_from, apart}
use Rattle.clv_base.specs.FileRules.{may_open, log_passes, passes_file_rules}
use Rattle.clv_base.specs.Restarts.{greatest_run, run_after}
use Rattle.law_base.proofs.Options.{none_of}
use Rattle.protocol_laws.proofs.LogsInOrder.OneRecordMore.{own_commit}
use Rattle.protocol_laws.proofs.LogsInOrder.RunsAreOfRestarts.{record_fits}
use Rattle.protocol_laws.proofs.LogsInOrder.{runs_in_order}
use Rattle.law_base.proofs.Logs.{passes_at as each_passes}

pub below_next_run : (logs : List (List LogRecord)) (i : ℕ) → greatest_run (log_of logs i) < run_after logs
below_next_run [] i = omega arith
below_next_run (log ∷ logs) zero = omega arith
below_next_run (log ∷ logs) (suc i) = let k = below_next_run logs i in omega (arith, k)

-- no log that may be opened has a COMMIT of the run that opens it
pub none_of_this_run : (splits : List ℕ) (before : List (List LogRecord)) (n : ℕ) (t : TxId) → may_open splits before ≡ true → n < length before → committed_in (log_of before n) t ≡ true
    → t.run ≡ run_after before → ⊥
none_of_this_run splits before n t m l c r =
    let p = and_parts (all_logs_from 0 (log_passes splits) before) (is_none (apart before)) m in
    let q = each_passes (log_passes splits) 0 n before p.0 l in
    let d = none_of (disorder (0 + n) (log_of before n)) (and_parts (list_all (passes_file_rules splits (0 + n)) (log_of before n)) _ q).1 in
    let f = record_fits (greatest_run (log_of before n)) t (is_commit_of t) (own_commit t) (log_of before n) (runs_in_order (0 + n) (log_of before n) d) c in
    let g = below_next_run before n in
    omega (arith, f, g, r)
