-- Members of a legal history of many shards, and where each of them is.
use Rattle.std.specs.Prelude.{◌≡◌, ◌⊎◌, ℕ, ◌<◌, Bool, true, List}
use Rattle.std.specs.List.{list_all}
use Rattle.clv_base.specs.declared.names.TxId.{TxId}
use Rattle.clv_base.specs.declared.logs.LogRecord.{LogRecord}
use Rattle.clv_base.specs.Orders.{tx_in}
use Rattle.clv_base.specs.Maps.{replay_map, replay_answers}
use Rattle.clv_base.specs.Logs.{committed_in, committed_somewhere, in_doubt, stands}
use Rattle.clv_base.specs.LogRules.{log_of, listed_in}
use Rattle.clv_base.specs.Shards.{shard_count}
use Rattle.clv_base.specs.FileRules.{may_open}
use Rattle.clv_base.specs.Journals.{History, final_of}
use Rattle.clv_base.specs.History.{logs_left, serial_acts, serial_answers}
use Rattle.history_laws.specs.Openings.{LegalFrom}
use Rattle.history_laws.specs.Continuing.{serial_left}
use Rattle.fate_laws.specs.Members.{is_member}
use Rattle.shard_laws.specs.OneShard.{Passes, map_found}
use Rattle.fate_laws.specs.Leading.{deeds_before}
use Rattle.headline_laws.specs.Shares.{share_of}

-- ---- what a log has of the map

-- of logs that may be opened, what a shard has of the map is what its own log commits, and what it leaves in doubt that some log commits
abbrev pub SharesAreMaps : Type 0
SharesAreMaps =
    (splits : List ℕ) (before : List (List LogRecord)) (n : ℕ) → may_open splits before ≡ true → n < shard_count splits
    → share_of before n ≡ map_found n (log_of before n) (committed_somewhere before)

-- ---- where a member is

-- a crash leaves it in doubt on the shard, where what is left commits all that its PREPARE lists, and it leaves a COMMIT of it on some shard
abbrev pub IsInDoubt : List (List LogRecord) → ℕ → TxId → Type 0
IsInDoubt left n t = (tx_in t (in_doubt n (log_of left n)) ≡ true) × (list_all (committed_in (log_of left n)) (listed_in (log_of left n) t) ≡ true) × (committed_somewhere left t ≡ true)

-- on the shard its COMMIT is left, or it is in doubt, or it asked, no write of it stands there and it is gone
abbrev pub IsHere : List ℕ → List (List LogRecord) → History → List (List LogRecord) → (ℕ → Bool) → ℕ → TxId → Type 0
IsHere splits before h after choice n t =
    (committed_in (log_of (logs_left splits before h after choice) n) t ≡ true)
    ⊎ (IsInDoubt (logs_left splits before h after choice) n t
    ⊎ Passes (deeds_before before h after n) (final_of before h after n) t)

-- where each member by what a crash leaves is here on each shard, the members replay
abbrev pub MembersReplayWhereHere : Type 0
MembersReplayWhereHere =
    (splits : List ℕ) (before : List (List LogRecord)) (h : History) (after : List (List LogRecord)) (choice : ℕ → Bool)
    → LegalFrom splits before h after
    → ((n : ℕ) (t : TxId) → n < shard_count splits → is_member splits before h after choice t ≡ true → IsHere splits before h after choice n t)
    → (replay_answers (stands before) (serial_acts (serial_left splits before h after choice)) ≡ serial_answers (serial_left splits before h after choice))
    × (replay_map (stands before) (serial_acts (serial_left splits before h after choice)) ≡ stands (logs_left splits before h after choice))
