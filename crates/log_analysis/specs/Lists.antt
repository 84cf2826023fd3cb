-- What the record at a place in a log lists.
use Rattle.std.specs.Prelude.{ℕ, List, [], Option, Some, None, slice_get}
use Rattle.clv_base.specs.declared.names.TxId.{TxId}
use Rattle.clv_base.specs.declared.logs.LogRecord.{LogRecord}
use Rattle.clv_base.specs.declared.logs.LogRecord.TheVariants.{Prepare, Commit, Check}
use Rattle.clv_base.specs.Maps.{KeyMap}

-- by the record, if there is one
abbrev pub home_by : Option LogRecord → Option ℕ
home_by (Some (Prepare tx home predecessors)) = Some home
home_by _ = None

abbrev pub listed_by : Option LogRecord → List TxId
listed_by (Some (Prepare tx home predecessors)) = predecessors
listed_by _ = []

abbrev pub parts_by : Option LogRecord → List ℕ
parts_by (Some (Commit tx parts)) = parts
parts_by _ = []

abbrev pub pairs_by : Option LogRecord → KeyMap
pairs_by (Some (Check run epoch upto base)) = base
pairs_by _ = []

-- the record at a place, if there is one
abbrev pub record_at : List LogRecord → Option ℕ → Option LogRecord
record_at log None = None
record_at log (Some n) = slice_get log n

-- the home and the predecessors of the PREPARE there, and the parts of the COMMIT there
abbrev pub home_at : List LogRecord → Option ℕ → Option ℕ
home_at log at = home_by (record_at log at)

abbrev pub listed_at : List LogRecord → Option ℕ → List TxId
listed_at log at = listed_by (record_at log at)

abbrev pub parts_at : List LogRecord → Option ℕ → List ℕ
parts_at log at = parts_by (record_at log at)

-- the map of the checkpoint there
abbrev pub pairs_at : List LogRecord → Option ℕ → KeyMap
pairs_at log at = pairs_by (record_at log at)
