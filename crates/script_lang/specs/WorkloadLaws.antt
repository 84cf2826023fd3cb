-- What holds of every script that is made.
use Rattle.std.specs.Prelude.{◌≡◌, ◌≢◌, ◌<◌, ◌≤◌, ℕ, true, length}
use Rattle.std.specs.List.{list_all}
use Rattle.script_lang.specs.declared.actions.Action.TheVariants.{Move}
use Rattle.script_lang.specs.Laws.{is_narrow_body}
use Rattle.script_lang.specs.Loads.{first_state, transfer, load}

-- a transfer is between two accounts, of 1 to 10
abbrev pub TransfersKeepToAccounts : Type 0
TransfersKeepToAccounts =
    (accounts x : ℕ) → 2 ≤ accounts
    → (from to amount : ℕ) × (transfer accounts x ≡ Move from to amount) × (from < accounts) × (to < accounts) × (from ≢ to) × (1 ≤ amount) × (amount ≤ 10)

-- of seed 0, the first session's first transfer among 100 accounts goes from account 74
abbrev pub TheFirstTransfer : Type 0
TheFirstTransfer = transfer 100 (first_state 0 1) ≡ Move 74 68 7

-- a workload has as many sessions as it is made for, and numbers within the bounds of scripts
abbrev pub LoadsHaveTheirSessions : Type 0
LoadsHaveTheirSessions = (seed sessions accounts transfers : ℕ) → length (load seed sessions accounts transfers) ≡ sessions

abbrev pub LoadsAreNarrow : Type 0
LoadsAreNarrow =
    (seed sessions accounts transfers : ℕ) → 2 ≤ accounts → accounts ≤ 10000 → list_all (list_all is_narrow_body) (load seed sessions accounts transfers) ≡ true
