-- Transactions over many shards, and what each shard has of them and of the map.
use Rattle.std.specs.Prelude.{◌≡◌, ℕ, zero, suc, ◌<◌, true, List, [], ◌++◌, map, length}
use Rattle.std.specs.List.{AllByRecursion, list_all}
use Rattle.clv_base.specs.declared.logs.LogRecord.{LogRecord}
use Rattle.clv_base.specs.Maps.{KeyMap}
use Rattle.clv_base.specs.Logs.{fold_updates, committed_somewhere, stands}
use Rattle.clv_base.specs.LogRules.{log_of, all_logs_from}
use Rattle.clv_base.specs.FileRules.{passes_file_rules}
use Rattle.clv_base.specs.Shards.{shard_count, are_splits}
use Rattle.clv_base.specs.History.{DoneAct}
use Rattle.serial_laws.specs.Shares.{ShardAct, part_on, whole, ReplaysTo, LiesIn, goes_whole}

-- the parts of transactions on a shard, none of which is left out
abbrev pub parts_on : ℕ → List (List ShardAct) → List (List DoneAct)
parts_on n ts = map (part_on n) ts

-- each operation's keys are its shard's
abbrev pub LieIn : List ℕ → List (List ShardAct) → Type 0
LieIn splits ts = AllByRecursion (λ t. AllByRecursion (LiesIn splits) t) ts

-- the goings back of each are whole
abbrev pub GoWhole : List (List ShardAct) → Type 0
GoWhole ts = AllByRecursion (λ t. goes_whole t ≡ true) ts

-- there is one log for each shard, with keys of its own alone
abbrev pub AreLogsOf : List ℕ → List (List LogRecord) → Type 0
AreLogsOf splits logs = (length logs ≡ shard_count splits) × (all_logs_from 0 (λ n log. list_all (passes_file_rules splits n) log) logs ≡ true)

-- what a shard's log has of the map that the logs stand for
abbrev pub share_of : List (List LogRecord) → ℕ → KeyMap
share_of logs n = fold_updates (committed_somewhere logs) (log_of logs n) []

-- where they replay on each shard, they do so on all
abbrev pub ReplayByShards : Type 0
ReplayByShards =
    (splits : List ℕ) (before left : List (List LogRecord)) (ts : List (List ShardAct))
    → are_splits splits ≡ true → AreLogsOf splits before → AreLogsOf splits left → LieIn splits ts → GoWhole ts
    → ((n : ℕ) → n < shard_count splits → ReplaysTo (share_of before n) (parts_on n ts) (share_of left n))
    → ReplaysTo (stands before) (map whole ts) (stands left)

-- ---- the map, shard by shard

-- the maps of k shards from n on, one after another
abbrev pub in_turn : (ℕ → KeyMap) → ℕ → ℕ → KeyMap
in_turn f n zero = []
in_turn f n (suc k) = f n ++ in_turn f (suc n) k

-- what each log has of the map that the logs stand for, one shard after another, is that map
abbrev pub SharesMakeTheMap : Type 0
SharesMakeTheMap =
    (splits : List ℕ) (logs : List (List LogRecord)) → are_splits splits ≡ true → AreLogsOf splits logs
    → in_turn (share_of logs) 0 (shard_count splits) ≡ stands logs
