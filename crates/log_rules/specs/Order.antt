-- What the order of a log comes to.
use Rattle.std.specs.Prelude.{◌≡◌, ℕ, true, false, List, Some, slice_index_or}
use Rattle.clv_base.specs.declared.logs.LogRecord.{LogRecord}
use Rattle.clv_base.specs.LogRules.{disorder}
use Rattle.log_rules.specs.declared.index.Index.{Index}
use Rattle.log_rules.specs.Rules.{fits}
use Rattle.log_rules.specs.Adding.{Adds}
use Rattle.log_rules.specs.declared.error.OrderError.{OrderError}
use Rattle.log_rules.specs.declared.error.OrderError.TheVariants.{Breaks, Memory}

-- why a log isn't taken: the record named is the first that breaks its rule, or there was no memory
abbrev pub Refuses : ℕ → List LogRecord → OrderError → Type 0
Refuses shard log (Breaks lsn) = disorder shard log ≡ Some lsn
Refuses shard log Memory = Unit {0}

-- the record at this place of the log fits behind those of the index, and went there
abbrev pub Reads : Index → Index → List LogRecord → ℕ → Type 0
Reads old new log n = (r : LogRecord) × (r ≡ slice_index_or log n r) × (fits old log n r ≡ true) × Adds old new n r

-- why it didn't: it doesn't fit, or there was no memory
abbrev pub RefusesAt : Index → List LogRecord → ℕ → OrderError → Type 0
RefusesAt x log n (Breaks lsn) = (lsn ≡ n) × (r : LogRecord) × (r ≡ slice_index_or log n r) × (fits x log n r ≡ false)
RefusesAt x log n Memory = Unit {0}
