-- The bytes of records on their way to a gate.
use Rattle.std.specs.Prelude.{ℕ, List}
use Rattle.std.specs.List.{flat_map}
use Rattle.clv_base.specs.declared.logs.LogRecord.{LogRecord}
use Rattle.log_records.specs.Spelling.{spelling}

-- the spellings of records, one behind the other
abbrev pub spellings : List LogRecord → List ℕ
spellings records = flat_map spelling records
