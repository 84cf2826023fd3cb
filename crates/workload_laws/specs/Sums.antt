-- What a serial history of a workload leaves of its accounts.
use Rattle.std.specs.Prelude.{◌≡◌, ◌⊎◌, ℕ, ◌≤◌, ◌-◌, ◌*◌, List, [], ◌∷◌, ◌++◌, map}
use Rattle.std.specs.List.{AllByRecursion}
use Rattle.clv_base.specs.declared.logs.LogRecord.{LogRecord}
use Rattle.clv_base.specs.Logs.{stands}
use Rattle.clv_base.specs.Maps.{KeyMap, map_between, replay_map, replay_answers}
use Rattle.clv_base.specs.History.{Member, answers_given, serial_acts, serial_answers}
use Rattle.report_text.specs.Loads.{values_sum}
use Rattle.script_lang.specs.declared.actions.Action.{Action}
use Rattle.script_lang.specs.Following.{all_acts}
use Rattle.script_lang.specs.Loads.{fill, transfer}

-- what so many accounts hold in all, those of the first keys
abbrev pub accounts_sum : ℕ → KeyMap → ℕ
accounts_sum accounts m = values_sum (map_between 0 (accounts - 1) m)

-- the member did what these lines ask for, under the answers that it was told
abbrev pub Follows : List Action → Member → Type 0
Follows lines m = map (λ p. p.1) m.acts ≡ all_acts lines (answers_given m.acts)

-- it fills so many accounts; or it is a transfer between two of them
abbrev pub Fills : ℕ → Member → Type 0
Fills accounts m = Follows (fill 0 accounts) m

abbrev pub Transfers : ℕ → Member → Type 0
Transfers accounts m = (x : ℕ) × Follows (transfer accounts x ∷ []) m

-- from whatever logs stand for, the accounts hold 1000 each in all after a filling, and transfers before and behind it
abbrev pub WorkloadsKeepTheirSum : Type 0
WorkloadsKeepTheirSum =
    (accounts : ℕ) (logs : List (List LogRecord)) (front behind : List Member) (filling : Member) → 2 ≤ accounts
    → replay_answers (stands logs) (serial_acts (front ++ filling ∷ behind)) ≡ serial_answers (front ++ filling ∷ behind)
    → AllByRecursion (λ m. Fills accounts m ⊎ Transfers accounts m) behind → Fills accounts filling
    → accounts_sum accounts (replay_map (stands logs) (serial_acts (front ++ filling ∷ behind))) ≡ 1000 * accounts
