-- What a world that keeps the rules promises.
use Rattle.std.specs.Prelude.{◌≡◌, ℕ, Bool, true, List, None, Some, slice_get}
use Rattle.clv_base.specs.declared.events.CoreStep.{CoreStep}
use Rattle.clv_base.specs.Shards.{shard_count, are_splits}
use Rattle.clv_base.specs.LogRules.{disorder}
use Rattle.clv_base.specs.State.{Shard}
use Rattle.clv_base.specs.Restarts.{log_left}
use Rattle.clv_base.specs.Core.{World}
use Rattle.journal_laws.specs.Worlds.{Steady, empty_logs, logs_now}
use Rattle.headline_laws.specs.Promise.{Promised}
use Rattle.clv_base.specs.Runs.{run_events}

-- whatever a crash of a shard keeps now, the log that it leaves is in order
abbrev pub LogsStayInOrder : Type 0
LogsStayInOrder =
    (splits : List ℕ) (w : World) (n : ℕ) (s : Shard) (kept : Bool) → are_splits splits ≡ true → Steady splits (empty_logs (shard_count splits)) w → slice_get w.shards n ≡ Some s
    → disorder n (log_left s kept) ≡ None

-- the whole promise, to the logs that one choice leaves now, of what any choice keeps
abbrev pub WorldsKeepPromise : Type 0
WorldsKeepPromise =
    (splits : List ℕ) (cs : List CoreStep) (left choice : ℕ → Bool) → are_splits splits ≡ true
    → Promised splits (empty_logs (shard_count splits)) (run_events splits cs).history (logs_now splits (run_events splits cs) left) choice
