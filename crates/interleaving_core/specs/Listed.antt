-- What callers see of a gate in memory.
use Rattle.std.specs.Prelude.{ℕ, List, Bool}
use Rattle.clv_base.specs.declared.logs.LogRecord.{LogRecord}

-- the records of its log; whose log it is; how often it has failed; and whether it is shut
pub record Listed : Type 0 where
  pub records : List LogRecord
  pub shard : ℕ
  pub faults : ℕ
  pub is_shut : Bool
