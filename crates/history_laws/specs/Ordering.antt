-- The order of a session's members.
use Rattle.std.specs.Prelude.{◌≡◌, ⊤, ℕ, ◌<◌, Bool, List, [], ◌∷◌}
use Rattle.std.specs.List.{AllByRecursion}
use Rattle.clv_base.specs.declared.logs.LogRecord.{LogRecord}
use Rattle.clv_base.specs.Journals.{History}
use Rattle.clv_base.specs.History.{Legal, Member}
use Rattle.history_laws.specs.Continuing.{serial_left}

-- where both are of one session, the second has the greater serial
abbrev pub SerialRises : Member → Member → Type 0
SerialRises m k = (m.tx).session ≡ (k.tx).session → (m.tx).serial < (k.tx).serial

-- of each member and each later one of the same session, the later one has the greater serial
abbrev pub AreInSessionOrder : List Member → Type 0
AreInSessionOrder [] = ⊤
AreInSessionOrder (m ∷ ms) = AllByRecursion (SerialRises m) ms × AreInSessionOrder ms

-- so it is of the members of every legal history, whatever a crash keeps of what is in flight
abbrev pub SessionsKeepTheirOrder : Type 0
SessionsKeepTheirOrder =
    (splits : List ℕ) (before : List (List LogRecord)) (h : History) (after : List (List LogRecord)) (choice : ℕ → Bool)
    → Legal splits before h after → AreInSessionOrder (serial_left splits before h after choice)
