-- What each shard has of a history's members.
use Rattle.std.specs.Prelude.{◌≡◌, ℕ, ◌<◌, Bool, List, map}
use Rattle.clv_base.specs.declared.logs.LogRecord.{LogRecord}
use Rattle.clv_base.specs.Maps.{replay_map, replay_answers}
use Rattle.clv_base.specs.Logs.{stands}
use Rattle.clv_base.specs.Shards.{shard_count}
use Rattle.clv_base.specs.Journals.{History}
use Rattle.clv_base.specs.History.{Member, serial_acts, serial_answers, logs_left}
use Rattle.history_laws.specs.Openings.{LegalFrom}
use Rattle.history_laws.specs.Continuing.{serial_left}
use Rattle.history_laws.specs.Going.{shard_acts_in}
use Rattle.headline_laws.specs.Shares.{parts_on, share_of}
use Rattle.serial_laws.specs.Shares.{ShardAct, ReplaysTo}

-- what the members did, with the shards
abbrev pub member_acts : History → List Member → List (List ShardAct)
member_acts h ms = map (λ m. shard_acts_in m.tx h) ms

-- where on each shard what the members did there replays, the members replay
abbrev pub MembersReplayByParts : Type 0
MembersReplayByParts =
    (splits : List ℕ) (before : List (List LogRecord)) (h : History) (after : List (List LogRecord)) (choice : ℕ → Bool)
    → LegalFrom splits before h after
    → ((n : ℕ) → n < shard_count splits → ReplaysTo (share_of before n) (parts_on n (member_acts h (serial_left splits before h after choice))) (share_of (logs_left splits before h after choice) n))
    → (replay_answers (stands before) (serial_acts (serial_left splits before h after choice)) ≡ serial_answers (serial_left splits before h after choice))
    × (replay_map (stands before) (serial_acts (serial_left splits before h after choice)) ≡ stands (logs_left splits before h after choice))
