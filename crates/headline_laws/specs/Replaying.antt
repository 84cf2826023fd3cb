-- What the members of a history of one shard replay to.
use Rattle.std.specs.Prelude.{◌≡◌, ℕ, Bool, List, [], ◌∷◌}
use Rattle.clv_base.specs.declared.logs.LogRecord.{LogRecord}
use Rattle.clv_base.specs.Maps.{replay_map, replay_answers}
use Rattle.clv_base.specs.Logs.{stands}
use Rattle.clv_base.specs.Journals.{History}
use Rattle.clv_base.specs.History.{Member, serial_acts, serial_answers, logs_left}
use Rattle.history_laws.specs.Openings.{LegalFrom}
use Rattle.history_laws.specs.Continuing.{serial_left}

-- one after another, from what the logs at opening stand for, they give their answers and the map that the logs left stand for
abbrev pub Replays : List (List LogRecord) → List Member → List (List LogRecord) → Type 0
Replays before ms left =
    (replay_answers (stands before) (serial_acts ms) ≡ serial_answers ms) × (replay_map (stands before) (serial_acts ms) ≡ stands left)

-- in every legal history of one shard, from any log that may be opened, whatever a crash keeps of what is in flight
abbrev pub MembersReplay : Type 0
MembersReplay =
    (before : List LogRecord) (h : History) (after : List (List LogRecord)) (choice : ℕ → Bool)
    → LegalFrom [] (before ∷ []) h after
    → Replays (before ∷ []) (serial_left [] (before ∷ []) h after choice) (logs_left [] (before ∷ []) h after choice)
