-- The state of a shard's transactions in which each record of the log has a spelling, and what keeps it.
use Rattle.std.specs.Prelude.{◌≡◌, ℕ, ◌<◌, ◌≤◌, ◌^◌, Bool, true, ◌&&◌, List, length, Option}
use Rattle.std.specs.List.{AllByRecursion, list_all}
use Rattle.clv_base.specs.Values.{fits_value}
use Rattle.clv_base.specs.declared.names.TxId.{TxId}
use Rattle.clv_base.specs.declared.names.Birth.{Birth}
use Rattle.clv_base.specs.declared.ops.Op.{Op}
use Rattle.clv_base.specs.declared.ops.Op.TheVariants.{Get, Put, Del, Scan, Add}
use Rattle.clv_base.specs.declared.logs.LogRecord.{LogRecord}
use Rattle.clv_base.specs.FileRules.{has_spelling, tx_has_spelling, is_64_bits, is_value}
use Rattle.clv_base.specs.State.{Local}
use Rattle.clv_base.specs.Undo.{roll_back, roll_to, release_parts}
use Rattle.clv_base.specs.Facts.{undecided_of}
use Rattle.clv_base.specs.OneShard.{performed, close_part, purge, drop_part}
use Rattle.clv_base.specs.Due.{append_log}
use Rattle.clv_base.specs.Restarts.{local_after}

-- each record of the log has a spelling; so have the names of those who hold locks, and of predecessors; and values fit their types
pub record IsSpelled (l : Local) : Type 0 where
  pub log : list_all has_spelling l.log ≡ true
  pub holders : AllByRecursion (λ r. tx_has_spelling (r.1).tx ≡ true) l.locks
  pub predecessors : AllByRecursion (λ p. tx_has_spelling p.1 ≡ true) l.pairs
  pub values : AllByRecursion (λ r. is_value r.1 ≡ true) l.records

-- the keys and values that an operation writes fit their types
abbrev pub fits_op : Op → Bool
fits_op (Get k) = true
fits_op (Put k v) = is_64_bits k && fits_value v
fits_op (Del k) = is_64_bits k
fits_op (Scan lo hi) = true
fits_op (Add k by) = is_64_bits k && is_64_bits by

abbrev pub OperationsKeep : Type 0
OperationsKeep = (tx : TxId) (birth : Birth) (op : Op) (l : Local) → tx_has_spelling tx ≡ true → fits_op op ≡ true → IsSpelled l → IsSpelled (performed tx birth op l)

abbrev pub ClosingsKeep : Type 0
ClosingsKeep = (tx : TxId) (home : ℕ) (one_shard : Bool) (l : Local) → home < 16 → length (undecided_of l tx) ≤ 1024 → IsSpelled l → IsSpelled (close_part tx home one_shard l)

abbrev pub AbortsKeep : Type 0
AbortsKeep = (tx : TxId) (l : Local) → length l.log < 2 ^ 64 → IsSpelled l → IsSpelled (roll_back tx l)

abbrev pub DropsKeep : Type 0
DropsKeep = (tx : TxId) (l : Local) → length l.log < 2 ^ 64 → IsSpelled l → IsSpelled (drop_part tx l)

abbrev pub RollsKeep : Type 0
RollsKeep = (tx : TxId) (n : ℕ) (l : Local) → length l.log < 2 ^ 64 → IsSpelled l → IsSpelled (roll_to tx n l)

abbrev pub EndsKeep : Type 0
EndsKeep = (txs : List TxId) (doom : Option TxId) (l : Local) → IsSpelled l → IsSpelled (release_parts txs doom l)

abbrev pub RecordsKeep : Type 0
RecordsKeep = (more : List LogRecord) (l : Local) → list_all has_spelling more ≡ true → IsSpelled l → IsSpelled (append_log more l)

abbrev pub PurgesKeep : Type 0
PurgesKeep = (l : Local) → IsSpelled l → IsSpelled (purge l)

abbrev pub RestartsAreSpelled : Type 0
RestartsAreSpelled = (shard epoch : ℕ) (log : List LogRecord) → list_all has_spelling log ≡ true → IsSpelled (local_after shard epoch log)
