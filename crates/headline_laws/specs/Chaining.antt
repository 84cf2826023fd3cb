-- What the next opening finds.
use Rattle.std.specs.Prelude.{◌≡◌, ℕ, List}
use Rattle.clv_base.specs.declared.logs.LogRecord.{LogRecord}
use Rattle.clv_base.specs.Maps.{replay_map, replay_answers}
use Rattle.clv_base.specs.Logs.{stands}
use Rattle.clv_base.specs.Journals.{History}
use Rattle.clv_base.specs.History.{serial, serial_acts, serial_answers}
use Rattle.history_laws.specs.Openings.{LegalFrom}

-- the members by the logs at the end, with what failed restarts added, replay from the map that the logs found stand for to the map that these
-- logs stand for, from which the next run begins
abbrev pub MembersReplayToTheEnd : Type 0
MembersReplayToTheEnd =
    (splits : List ℕ) (before : List (List LogRecord)) (h : History) (after : List (List LogRecord))
    → LegalFrom splits before h after
    → (replay_answers (stands before) (serial_acts (serial after h)) ≡ serial_answers (serial after h)) × (replay_map (stands before) (serial_acts (serial after h)) ≡ stands after)
