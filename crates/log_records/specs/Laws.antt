-- Laws of spellings.
use Rattle.std.specs.Prelude.{◌≡◌, ℕ, List, ◌++◌, length}
use Rattle.clv_base.specs.declared.logs.LogRecord.{LogRecord}
use Rattle.clv_base.specs.Logs.{record_size}
use Rattle.clv_base.specs.declared.shard_log.FileRecord.{FileRecord}
use Rattle.log_records.specs.Spelling.{Spells}
use Rattle.log_records.specs.FileSpelling.{SpellsInFile, file_record_size}

-- no bytes spell two records
abbrev pub SpellsOne : Type 0
SpellsOne = (r s : LogRecord) (bytes : List ℕ) → Spells r bytes → Spells s bytes → r ≡ s

-- all spellings of a record are the same bytes
abbrev pub SpelledOneWay : Type 0
SpelledOneWay = (r : LogRecord) (some others : List ℕ) → Spells r some → Spells r others → some ≡ others

-- where a spelling and more bytes are a spelling and more bytes, the records are one, and so is what follows
abbrev pub NoneBeginsAnother : Type 0
NoneBeginsAnother = (r s : LogRecord) (some others behind after : List ℕ) → Spells r some → Spells s others → some ++ behind ≡ others ++ after → (r ≡ s) × (behind ≡ after)

-- a spelling is as long as its record's size
abbrev pub LengthIsSize : Type 0
LengthIsSize = (r : LogRecord) (bytes : List ℕ) → Spells r bytes → length bytes ≡ record_size r

-- ---- the same of a file's records

abbrev pub SpellsOneInFile : Type 0
SpellsOneInFile = (r s : FileRecord) (bytes : List ℕ) → SpellsInFile r bytes → SpellsInFile s bytes → r ≡ s

abbrev pub NoneBeginsAnotherInFile : Type 0
NoneBeginsAnotherInFile =
    (r s : FileRecord) (some others behind after : List ℕ) → SpellsInFile r some → SpellsInFile s others → some ++ behind ≡ others ++ after → (r ≡ s) × (behind ≡ after)

abbrev pub LengthIsSizeInFile : Type 0
LengthIsSizeInFile = (r : FileRecord) (bytes : List ℕ) → SpellsInFile r bytes → length bytes ≡ file_record_size r
