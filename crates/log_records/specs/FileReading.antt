-- Reading what stands in a file, from left to right.
use Rattle.std.specs.Prelude.{ℕ, zero, suc, ◌-◌, nat_lt, List, [], ◌∷◌, Option, Some, None, if◌then◌else◌}
use Rattle.clv_base.specs.declared.shard_log.FileRecord.{FileRecord}
use Rattle.clv_base.specs.declared.shard_log.FileRecord.TheVariants.{Plain, Begin, Base, Keep, Checked}
use Rattle.clv_base.specs.declared.values.Value.{Value}
use Rattle.clv_base.specs.FileRules.{file_record_has_spelling}
use Rattle.log_records.specs.Reading.{◌>>=◌, number_at, optional_at, record_at}

unfoldable pub check_at : List ℕ → Option (FileRecord × List ℕ)
check_at bytes = do
  run ← number_at 4 bytes
  epoch ← number_at 8 run.1
  upto ← number_at 8 epoch.1
  Some (Begin run.0 epoch.0 upto.0, upto.1)

abbrev pub base_of : ℕ → Option Value × List ℕ → Option (FileRecord × List ℕ)
base_of key (None, rest) = None
base_of key (Some value, rest) = Some (Base key value, rest)

unfoldable pub base_at : List ℕ → Option (FileRecord × List ℕ)
base_at bytes = do
  key ← number_at 8 bytes
  value ← optional_at key.1
  base_of key.0 value

unfoldable pub keep_at : List ℕ → Option (FileRecord × List ℕ)
keep_at bytes = do
  lsn ← number_at 8 bytes
  r ← record_at lsn.1
  Some (Keep lsn.0 r.0, r.1)

unfoldable pub plain_at : List ℕ → Option (FileRecord × List ℕ)
plain_at bytes = do
  r ← record_at bytes
  Some (Plain r.0, r.1)

-- by its kind, less 10
unfoldable pub part_fields_at : ℕ → List ℕ → Option (FileRecord × List ℕ)
part_fields_at zero bytes = check_at bytes
part_fields_at (suc zero) bytes = base_at bytes
part_fields_at (suc (suc zero)) bytes = keep_at bytes
part_fields_at (suc (suc (suc zero))) bytes = Some (Checked, bytes)
part_fields_at (suc (suc (suc (suc k)))) bytes = None

abbrev pub if_in_bounds_in_file : FileRecord × List ℕ → Option (FileRecord × List ℕ)
if_in_bounds_in_file x = if file_record_has_spelling x.0 then Some x else None

-- the file's record that is spelled at the front, and the bytes after it: kinds 10 to 13 are those of a checkpoint
unfoldable pub file_record_at : List ℕ → Option (FileRecord × List ℕ)
file_record_at [] = None
file_record_at (kind ∷ bytes) = if nat_lt kind 10 then plain_at (kind ∷ bytes) else (part_fields_at (kind - 10) bytes >>= if_in_bounds_in_file)
