-- Records spelled one behind another, cut into payloads between records.
use Rattle.std.specs.Prelude.{◌≡◌, ℕ, ◌-◌, ◌≤◌, Bool, cond, nat_le, List, [], ◌∷◌, ◌++◌, length}
use Rattle.clv_base.specs.declared.shard_log.FileRecord.{FileRecord}
use Rattle.log_records.specs.FileSpelling.{file_spelling}

-- the spellings of records, one behind another
abbrev pub spellings : List FileRecord → List ℕ
spellings [] = []
spellings (r ∷ rs) = file_spelling r ++ spellings rs

-- each payload is the spellings of the next records, and all are spelled
abbrev pub IsCut : List FileRecord → List (List ℕ) → Type 0
IsCut records [] = records ≡ []
IsCut records (payload ∷ payloads) =
    (front : List FileRecord) × (behind : List FileRecord) × (records ≡ front ++ behind) × (payload ≡ spellings front) × IsCut behind payloads

-- how long a payload may be
abbrev pub FitsBatch : List ℕ → Type 0
FitsBatch payload = (1 ≤ length payload) × (length payload ≤ 1048576)

-- ---- records put one after another

abbrev pub fits_behind : List ℕ → List ℕ → Bool
fits_behind payload spelled = nat_le (length spelled) (1048576 - length payload)

-- a record's spelling behind the last payload where it fits there, else in one more
abbrev pub joined : List (List ℕ) → List ℕ → List (List ℕ)
joined [] spelled = spelled ∷ []
joined (p ∷ []) spelled = cond (fits_behind p spelled) ((p ++ spelled) ∷ []) (p ∷ spelled ∷ [])
joined (p ∷ q ∷ ps) spelled = p ∷ joined (q ∷ ps) spelled

abbrev pub cut : List (List ℕ) → List FileRecord → List (List ℕ)
cut payloads [] = payloads
cut payloads (r ∷ rs) = cut (joined payloads (file_spelling r)) rs
