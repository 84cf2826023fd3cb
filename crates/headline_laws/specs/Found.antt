-- Where each member of a legal history is, and that the members replay.
use Rattle.std.specs.Prelude.{◌≡◌, ℕ, ◌<◌, Bool, true, List}
use Rattle.clv_base.specs.declared.names.TxId.{TxId}
use Rattle.clv_base.specs.declared.logs.LogRecord.{LogRecord}
use Rattle.clv_base.specs.Maps.{replay_map, replay_answers}
use Rattle.clv_base.specs.Logs.{stands}
use Rattle.clv_base.specs.Shards.{shard_count}
use Rattle.clv_base.specs.Journals.{History}
use Rattle.clv_base.specs.History.{logs_left, serial_acts, serial_answers}
use Rattle.history_laws.specs.Openings.{LegalFrom}
use Rattle.history_laws.specs.Continuing.{serial_left}
use Rattle.fate_laws.specs.Members.{is_member}
use Rattle.headline_laws.specs.ReplayingHere.{IsHere}

-- each member by what a crash leaves is here on each shard
abbrev pub MembersAreFound : Type 0
MembersAreFound =
    (splits : List ℕ) (before : List (List LogRecord)) (h : History) (after : List (List LogRecord)) (choice : ℕ → Bool) (n : ℕ) (t : TxId)
    → LegalFrom splits before h after → n < shard_count splits
    → is_member splits before h after choice t ≡ true → IsHere splits before h after choice n t

-- and the members replay: from the map that the logs found stand for, to their answers and to the map that the logs left stand for
abbrev pub MembersReplay : Type 0
MembersReplay =
    (splits : List ℕ) (before : List (List LogRecord)) (h : History) (after : List (List LogRecord)) (choice : ℕ → Bool)
    → LegalFrom splits before h after
    → (replay_answers (stands before) (serial_acts (serial_left splits before h after choice)) ≡ serial_answers (serial_left splits before h after choice))
    × (replay_map (stands before) (serial_acts (serial_left splits before h after choice)) ≡ stands (logs_left splits before h after choice))
