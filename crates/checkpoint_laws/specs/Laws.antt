-- Checkpoints of logs in order.
use Rattle.std.specs.Prelude.{◌≡◌, ℕ, suc, ◌<◌, ◌^◌, Bool, true, cond, List, [], ◌∷◌, ◌++◌, length, None}
use Rattle.std.specs.List.{AllByRecursion}
use Rattle.clv_base.specs.declared.logs.LogRecord.{LogRecord}
use Rattle.clv_base.specs.Logs.{in_doubt, stands}
use Rattle.clv_base.specs.declared.events.Entry.{Entry}
use Rattle.clv_base.specs.LogRules.{disorder}
use Rattle.clv_base.specs.FileRules.{may_open}
use Rattle.clv_base.specs.Shards.{shard_count, are_splits}
use Rattle.clv_base.specs.State.{Shard, with_local}
use Rattle.clv_base.specs.Restarts.{restart_records, greatest_run, state_after, opened}
use Rattle.clv_base.specs.Checkpoints.{check}

abbrev pub CheckpointsOfLogsInOrder : Type 0
CheckpointsOfLogsInOrder =
    (shard : ℕ) (log : List LogRecord) → disorder shard log ≡ None
    → (check shard (check shard log) ≡ check shard log) × (in_doubt shard (check shard log) ≡ in_doubt shard log)
    × ((run epoch : ℕ) → restart_records shard (check shard log) run epoch ≡ restart_records shard log run epoch)
    × (stands (check shard log ∷ []) ≡ stands (log ∷ []))

abbrev pub LogsInOrderStayAlike : Type 0
LogsInOrderStayAlike =
    (shard : ℕ) (log more : List LogRecord) → disorder shard log ≡ None → disorder shard (log ++ more) ≡ None
    → check shard (check shard log ++ more) ≡ check shard (log ++ more)

-- the checkpoint of a log in order is in order, where its places have numbers
abbrev pub CheckpointsAreInOrder : Type 0
CheckpointsAreInOrder = (shard : ℕ) (log : List LogRecord) → disorder shard log ≡ None → length log < 2 ^ 63 → disorder shard (check shard log) ≡ None

-- and so is what comes behind it, where it comes in order behind the log
abbrev pub CheckpointsGoOnInOrder : Type 0
CheckpointsGoOnInOrder =
    (shard : ℕ) (log more : List LogRecord) → disorder shard log ≡ None → length log < 2 ^ 63 → disorder shard (log ++ more) ≡ None → disorder shard (check shard log ++ more) ≡ None

-- a shard with its log aside
abbrev pub log_aside : Shard → Shard
log_aside s = with_local (λ l. record l { log = [] }) s

-- behind a log in order, and behind its checkpoint, the same records leave the same state
abbrev pub CheckpointsLeaveTheState : Type 0
CheckpointsLeaveTheState =
    (shard run epoch last : ℕ) (log more : List LogRecord) (journal : List Entry) → disorder shard log ≡ None → length log < 2 ^ 63 → disorder shard (log ++ more) ≡ None
    → log_aside (state_after shard run epoch (check shard log ++ more) last journal) ≡ log_aside (state_after shard run epoch (log ++ more) last journal)

-- so a shard is opened from its checkpoint as from the log, where the run is a later one
abbrev pub CheckpointsOpenAlike : Type 0
CheckpointsOpenAlike =
    (shard run : ℕ) (log : List LogRecord) → disorder shard log ≡ None → length log < 2 ^ 63 → greatest_run log < run
    → log_aside (opened shard run (check shard log)) ≡ log_aside (opened shard run log)

-- ---- the logs of all shards

-- from shard n up, the logs of these shards exchanged for their checkpoints
abbrev pub exchanged_from : (ℕ → Bool) → ℕ → List (List LogRecord) → List (List LogRecord)
exchanged_from these n [] = []
exchanged_from these n (log ∷ logs) = cond (these n) (check n log) log ∷ exchanged_from these (suc n) logs

-- logs that may be opened stand for the same map where some of them are exchanged for their checkpoints
abbrev pub ExchangedStandAlike : Type 0
ExchangedStandAlike =
    (splits : List ℕ) (these : ℕ → Bool) (logs : List (List LogRecord)) → are_splits splits ≡ true → length logs ≡ shard_count splits → may_open splits logs ≡ true
    → stands (exchanged_from these 0 logs) ≡ stands logs

-- and may be opened
abbrev pub ExchangedMayBeOpened : Type 0
ExchangedMayBeOpened =
    (splits : List ℕ) (these : ℕ → Bool) (logs : List (List LogRecord)) → AllByRecursion (λ log. length log < 2 ^ 63) logs → may_open splits logs ≡ true
    → may_open splits (exchanged_from these 0 logs) ≡ true
