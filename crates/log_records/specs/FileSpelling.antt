-- The spelling of what stands in a file: records, and the kinds of which a checkpoint is made.
use Rattle.std.specs.Prelude.{◌≡◌, ℕ, ◌+◌, List, [], ◌∷◌, ◌++◌, Some, IsTrue}
use Rattle.clv_base.specs.declared.shard_log.FileRecord.{FileRecord}
use Rattle.clv_base.specs.declared.shard_log.FileRecord.TheVariants.{Plain, Begin, Base, Keep, Checked}
use Rattle.clv_base.specs.Logs.{record_size, value_size}
use Rattle.clv_base.specs.FileRules.{file_record_has_spelling}
use Rattle.log_records.specs.Spelling.{number, optional, spelling}

abbrev pub file_spelling : FileRecord → List ℕ
file_spelling (Plain r) = spelling r
file_spelling (Begin run epoch upto) = 10 ∷ (number 4 run ++ (number 8 epoch ++ number 8 upto))
file_spelling (Base key value) = 11 ∷ (number 8 key ++ optional (Some value))
file_spelling (Keep lsn r) = 12 ∷ (number 8 lsn ++ spelling r)
file_spelling Checked = 13 ∷ []

abbrev pub file_record_size : FileRecord → ℕ
file_record_size (Plain r) = record_size r
file_record_size (Begin run epoch upto) = 21
file_record_size (Base key value) = 9 + value_size value
file_record_size (Keep lsn r) = 9 + record_size r
file_record_size Checked = 1

-- these bytes spell it, whose fields are in bounds
pub record SpellsInFile (r : FileRecord) (bytes : List ℕ) : Type 0 where
  pub in_bounds : IsTrue (file_record_has_spelling r)
  pub is : bytes ≡ file_spelling r

-- these bytes begin with its spelling, and those are behind it
pub record BeginsInFile (r : FileRecord) (behind bytes : List ℕ) : Type 0 where
  pub in_bounds : IsTrue (file_record_has_spelling r)
  pub is : bytes ≡ file_spelling r ++ behind
