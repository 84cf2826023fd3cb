-- What the logs that an opening leaves stand for.
use Rattle.std.specs.Prelude.{◌≡◌, ℕ, ◌<◌, true, List, ◌++◌, take, length}
use Rattle.clv_base.specs.declared.logs.LogRecord.{LogRecord}
use Rattle.clv_base.specs.Logs.{stands}
use Rattle.clv_base.specs.LogRules.{log_of}
use Rattle.clv_base.specs.FileRules.{may_open}
use Rattle.clv_base.specs.Restarts.{restart_records}

-- each log is the one found there, with some first records of those that a restart of this run adds
pub record AreBegun (run : ℕ) (founds logs : List (List LogRecord)) : Type 0 where
  pub count : length logs ≡ length founds
  pub each : (n : ℕ) → n < length founds → (written : ℕ) × (log_of logs n ≡ log_of founds n ++ take written (restart_records n (log_of founds n) run 0))

-- such logs stand for the same map as those found, which may be opened together
abbrev pub BegunStandForTheSame : Type 0
BegunStandForTheSame =
    (splits : List ℕ) (run : ℕ) (founds logs : List (List LogRecord)) → may_open splits founds ≡ true → AreBegun run founds logs → stands logs ≡ stands founds
