-- What restarts may make of a log that was found.
use Rattle.std.specs.Prelude.{◌≡◌, ◌≤◌, ◌↔◌, ℕ, Bool, None, List}
use Rattle.clv_base.specs.declared.logs.LogRecord.{LogRecord}
use Rattle.clv_base.specs.State.{Shard}
use Rattle.clv_base.specs.Restarts.{Restarts, next_epoch, log_up_to_epoch, log_left, misfit}

-- whatever restarts failed in between, and wherever, the log after the one that is whole is the one log up to its RESTART
abbrev pub RestartsLeadToOne : Type 0
RestartsLeadToOne =
    (s : Shard) (found : List LogRecord) (epoch : ℕ) (after : List LogRecord) → Restarts s found epoch after
    → (next_epoch s found ≤ epoch) × (after ≡ log_up_to_epoch s found epoch)

-- that log is led to, for each epoch from the next one on
abbrev pub RestartsReach : Type 0
RestartsReach =
    (s : Shard) (found : List LogRecord) (epoch : ℕ) → next_epoch s found ≤ epoch → Restarts s found epoch (log_up_to_epoch s found epoch)

-- no record is amiss exactly where the log may stand after a restart with this epoch
abbrev pub MisfitIsExact : Type 0
MisfitIsExact =
    (s : Shard) (log : List LogRecord) (epoch : ℕ)
    → (misfit s log epoch ≡ None) ↔ ((flight_survives : Bool) × Restarts s (log_left s flight_survives) epoch log)
