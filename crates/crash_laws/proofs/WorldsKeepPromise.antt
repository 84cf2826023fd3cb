-- A steady world's history is legal, so it has the promise.
use Rattle.std.proofs.Common.{◌≡◌, inl, sym, ap, subst, ◌∙◌, ℕ, ◌+◌, ◌<◌, List, [], Some, None, arith}
use Rattle.std.specs.Prelude.{slice_get}
use Rattle.clv_base.specs.declared.logs.LogRecord.{LogRecord}
use Rattle.clv_base.specs.Shards.{shard_count}
use Rattle.clv_base.specs.LogRules.{log_of, disorder}
use Rattle.clv_base.specs.State.{Shard}
use Rattle.clv_base.specs.Restarts.{opened, run_after, log_left}
use Rattle.clv_base.specs.Core.{World}
use Rattle.clv_base.specs.Journals.{journal_of, final_of}
use Rattle.clv_base.specs.History.{logs_left}
use Rattle.history_laws.specs.Openings.{LegalFrom}
use Rattle.history_laws.proofs.NeverTakenBack.LaterHistoriesHoldMembers.{left_at}
use Rattle.fate_laws.proofs.LogsLeftAreInOrder.{logs_left_are_in_order}
use Rattle.headline_laws.proofs.Promise.{promise}
use Rattle.journal_laws.specs.Worlds.{empty_logs, shard_at, logs_now}
use Rattle.journal_laws.proofs.RunsGoOn.{runs_fit}
use Rattle.journal_laws.proofs.SteadyIsLegal.{steady_is_legal, empty_count, empty_fits, empty_logs_may_be_opened, run_events_is_legal}
use Rattle.clv_base.specs.Runs.{run_events}
use Rattle.crash_laws.specs.PromiseLaws.{LogsStayInOrder, WorldsKeepPromise}
use Rattle.law_base.proofs.Shards.{shard_inside as within}

there : (w : World) (n : ℕ) (s : Shard) → slice_get w.shards n ≡ Some s → shard_at w n ≡ s
there w n s h = ap (λ o. elim o [ Some x ↦ x | None ↦ opened n 1 [] ]) h

pub logs_stay_in_order : LogsStayInOrder
logs_stay_in_order splits w n s kept few k g = ap (disorder n) (sym log_is) ∙ logs_left_are_in_order splits before w.history now (λ m. kept) n legal low
  where
    before : List (List LogRecord)
    before = empty_logs (shard_count splits)

    now : List (List LogRecord)
    now = logs_now splits w (λ m. kept)

    legal : LegalFrom splits before w.history now
    legal = record { opens = (empty_logs_may_be_opened splits (shard_count splits)).0; legal = steady_is_legal splits before w (λ m. kept) few (empty_count (shard_count splits)) (empty_fits (shard_count splits)) k }

    low : n < shard_count splits
    low = subst (λ m. n < m) k.shards (within w.shards n s g)

    plus : 0 + n ≡ n
    plus = omega arith

    left_is : log_of (logs_now splits w (λ m. kept)) n ≡ log_left s kept
    left_is = left_at (shard_at w) (λ m. kept) 0 (shard_count splits) n low ∙ ap (λ m. log_left (shard_at w m) kept) plus ∙ ap (λ u. log_left u kept) (there w n s g)

    final_is : final_of (empty_logs (shard_count splits)) w.history (logs_now splits w (λ m. kept)) n ≡ s
    final_is =
        (runs_fit n (run_after (empty_logs (shard_count splits))) (log_of (empty_logs (shard_count splits)) n) (journal_of n w.history) s (log_of (logs_now splits w (λ m. kept)) n) (k.runs n s g) (kept, inl left_is)).1

    log_is : log_of (logs_left splits (empty_logs (shard_count splits)) w.history (logs_now splits w (λ m. kept)) (λ m. kept)) n ≡ log_left s kept
    log_is =
        left_at (final_of (empty_logs (shard_count splits)) w.history (logs_now splits w (λ m. kept))) (λ m. kept) 0 (shard_count splits) n low
        ∙ ap (λ m. log_left (final_of (empty_logs (shard_count splits)) w.history (logs_now splits w (λ i. kept)) m) kept) plus ∙ ap (λ u. log_left u kept) final_is

pub worlds_keep_promise : WorldsKeepPromise
worlds_keep_promise splits cs left choice few =
    promise splits (empty_logs (shard_count splits)) (run_events splits cs).history (logs_now splits (run_events splits cs) left) choice
    (record { opens = (empty_logs_may_be_opened splits (shard_count splits)).0; legal = run_events_is_legal splits cs left few })
