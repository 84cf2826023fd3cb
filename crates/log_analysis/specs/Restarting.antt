-- What a restart leaves as it was.
use Rattle.std.specs.Prelude.{◌≡◌, ℕ, List}
use Rattle.clv_base.specs.declared.logs.LogRecord.{LogRecord}
use Rattle.clv_base.specs.Logs.{in_doubt}
use Rattle.clv_base.specs.Restarts.{log_after_restart, homes_of, restored_pairs, unended_in}

-- those in doubt in the log after a restart are those of the log that it found
abbrev pub KeepsDoubt : Type 0
KeepsDoubt = (shard run epoch : ℕ) (found : List LogRecord) → in_doubt shard (log_after_restart shard found run epoch) ≡ in_doubt shard found

-- and so are their homes, their predecessors without a COMMIT, and the COMMITs with parts and no END
abbrev pub KeepsHomes : Type 0
KeepsHomes =
    (shard run epoch : ℕ) (found : List LogRecord)
    → homes_of (log_after_restart shard found run epoch) (in_doubt shard (log_after_restart shard found run epoch)) ≡ homes_of found (in_doubt shard found)

abbrev pub KeepsPairs : Type 0
KeepsPairs =
    (shard run epoch : ℕ) (found : List LogRecord)
    → restored_pairs (log_after_restart shard found run epoch) (in_doubt shard (log_after_restart shard found run epoch)) ≡ restored_pairs found (in_doubt shard found)

abbrev pub KeepsUnended : Type 0
KeepsUnended =
    (shard run epoch : ℕ) (found : List LogRecord)
    → unended_in (log_after_restart shard found run epoch) (log_after_restart shard found run epoch) ≡ unended_in found found
