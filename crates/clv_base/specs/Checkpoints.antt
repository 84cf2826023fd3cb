-- Checkpoints: the log that a log may be exchanged for, and how a file's records are a log.
use Rattle.std.specs.Prelude.{◌≡◌, ℕ, zero, suc, ◌-◌, Bool, true, false, cond, not, ◌&&◌, ◌||◌, ◌==◌, nat_lt, nat_le, List, [], ◌∷◌, ◌++◌, map, length, take, drop, replicate, Option, Some, None, unwrap_or, Result, Ok, Err}
use Rattle.std.specs.List.{filter, list_any}
use Rattle.clv_base.specs.declared.names.TxId.{TxId}
use Rattle.clv_base.specs.declared.logs.LogRecord.{LogRecord}
use Rattle.clv_base.specs.declared.logs.LogRecord.TheVariants.{Update, Clr, Prepare, Commit, Abort, End, Restart, Add, Unadd, Forgotten, Check}
use Rattle.clv_base.specs.declared.shard_log.FileRecord.{FileRecord}
use Rattle.clv_base.specs.declared.shard_log.FileRecord.TheVariants.{Plain, Begin, Base, Keep, Checked}
use Rattle.clv_base.specs.Values.{same_list}
use Rattle.clv_base.specs.Maps.{KeyMap}
use Rattle.clv_base.specs.Logs.{StandingUpdate, has_standing, committed_in, prepare_of, standing, fold_writes, base_of}
use Rattle.clv_base.specs.LogRules.{same_record, last_restart, some_parts}

-- ---- the checkpoint of a log

-- whether the home that a PREPARE names is another shard
abbrev pub is_away : ℕ → Option (ℕ × List TxId) → Bool
is_away shard None = false
is_away shard (Some p) = not (p.0 == shard)

-- the transaction is not committed here, and a write of it stands
abbrev pub is_left_open : List LogRecord → TxId → Bool
is_left_open log tx = not (committed_in log tx) && has_standing log tx

abbrev pub stands_at : ℕ → List StandingUpdate → Bool
stands_at n ws = list_any (λ w. w.lsn == n) ws

abbrev pub kept_if : Bool → LogRecord → LogRecord
kept_if true r = r
kept_if false r = Forgotten

-- of a PREPARE: of one committed here with another home it stays without its list; of an open one with those that have no COMMIT here
abbrev pub kept_prepare : ℕ → List LogRecord → TxId → ℕ → List TxId → Bool → LogRecord
kept_prepare shard log tx home predecessors true = kept_if (not (home == shard)) (Prepare tx home [])
kept_prepare shard log tx home predecessors false = kept_if (is_left_open log tx) (Prepare tx home (filter (λ p. not (committed_in log p)) predecessors))

-- what stays of the record at a place
abbrev pub kept_of : ℕ → List LogRecord → ℕ → LogRecord → LogRecord
kept_of shard log n (Update tx key before after) = kept_if (not (committed_in log tx) && stands_at n (standing log)) (Update tx key before after)
kept_of shard log n (Add tx key by) = kept_if (not (committed_in log tx) && stands_at n (standing log)) (Add tx key by)
kept_of shard log n (Clr tx undo_next key after) = Forgotten
kept_of shard log n (Unadd tx undo_next key by) = Forgotten
kept_of shard log n (Prepare tx home predecessors) = kept_prepare shard log tx home predecessors (committed_in log tx)
kept_of shard log n (Commit tx parts) = kept_if (some_parts parts || is_away shard (prepare_of log tx)) (Commit tx parts)
kept_of shard log n (Abort tx) = kept_if (is_left_open log tx) (Abort tx)
kept_of shard log n (End tx) = End tx
kept_of shard log n (Restart run epoch) = Forgotten
kept_of shard log n Forgotten = Forgotten
kept_of shard log n (Check run epoch upto base) = Forgotten

abbrev pub kept_from : ℕ → List LogRecord → ℕ → List LogRecord → List LogRecord
kept_from shard log n [] = []
kept_from shard log n (r ∷ rs) = kept_of shard log n r ∷ kept_from shard log (suc n) rs

abbrev pub no_restart : Option (ℕ × ℕ) → ℕ × ℕ
no_restart o = unwrap_or o (0, 0)

-- the map of those committed in a log: what it begins with, and their writes
abbrev pub committed_map : List LogRecord → KeyMap
committed_map log = fold_writes (committed_in log) (standing log) (base_of log)

-- the checkpoint of a log: it has as many places, at the first the map and the last RESTART, at the others what is still needed
abbrev pub check : ℕ → List LogRecord → List LogRecord
check shard [] = []
check shard (r ∷ rs) =
    Check (no_restart (last_restart (r ∷ rs))).0 (no_restart (last_restart (r ∷ rs))).1 (suc (length rs)) (committed_map (r ∷ rs)) ∷ kept_from shard (r ∷ rs) 1 rs

-- ---- logs of which the checkpoints are equal

abbrev pub are_alike : ℕ → List LogRecord → List LogRecord → Bool
are_alike shard a b = same_list same_record (check shard a) (check shard b)

abbrev pub Alike : ℕ → List LogRecord → List LogRecord → Type 0
Alike shard a b = check shard a ≡ check shard b

-- ---- the log that a file's records are, or the place of the first that stands where none of its kind may

abbrev pub plain_from : ℕ → List LogRecord → List FileRecord → Result (List LogRecord) ℕ
plain_from place log [] = Ok log
plain_from place log (Plain r ∷ rs) = plain_from (suc place) (log ++ r ∷ []) rs
plain_from place log (_ ∷ rs) = Err place

-- up to the place of a kept record all are forgotten
abbrev pub forgotten_to : ℕ → List LogRecord → List LogRecord
forgotten_to lsn log = log ++ replicate (lsn - length log) Forgotten

-- the kept records, by rising places below the first later one
abbrev pub kept_part_from : ℕ → ℕ → List LogRecord → List FileRecord → Result (List LogRecord) ℕ
kept_part_from place upto log (Keep lsn r ∷ rs) =
    cond (nat_le (length log) lsn && nat_lt lsn upto) (kept_part_from (suc place) upto (forgotten_to lsn log ++ r ∷ []) rs) (Err place)
kept_part_from place upto log (Checked ∷ rs) = plain_from (suc place) (forgotten_to upto log) rs
kept_part_from place upto log (_ ∷ rs) = Err place
kept_part_from place upto log [] = Err place

-- the pairs, by rising keys
abbrev pub base_part_from : ℕ → ℕ → ℕ → ℕ → ℕ → KeyMap → List FileRecord → Result (List LogRecord) ℕ
base_part_from place least run epoch upto base (Base key value ∷ rs) =
    cond (nat_le least key) (base_part_from (suc place) (suc key) run epoch upto (base ++ (key, value) ∷ []) rs) (Err place)
base_part_from place least run epoch upto base rs = kept_part_from place upto (Check run epoch upto base ∷ []) rs

-- a checkpoint of a log without records has no last RESTART, no pairs and keeps nothing
abbrev pub empty_part : ℕ → ℕ → List FileRecord → Result (List LogRecord) ℕ
empty_part zero zero (Checked ∷ rs) = plain_from 2 [] rs
empty_part zero zero _ = Err 1
empty_part run epoch rs = Err 0

-- a file of version 2 may begin with a checkpoint
abbrev pub checked_in_file : ℕ → ℕ → ℕ → List FileRecord → Result (List LogRecord) ℕ
checked_in_file run epoch zero rs = empty_part run epoch rs
checked_in_file run epoch (suc n) rs = base_part_from 1 0 run epoch (suc n) [] rs

abbrev pub log_in_file : List FileRecord → Result (List LogRecord) ℕ
log_in_file (Begin run epoch upto ∷ rs) = checked_in_file run epoch upto rs
log_in_file rs = plain_from 0 [] rs

-- ---- the records of a log's file

abbrev pub kept_records : ℕ → List LogRecord → List FileRecord
kept_records n [] = []
kept_records n (Forgotten ∷ rs) = kept_records (suc n) rs
kept_records n (r ∷ rs) = Keep n r ∷ kept_records (suc n) rs

abbrev pub checked_records : ℕ → ℕ → ℕ → KeyMap → List LogRecord → List FileRecord
checked_records run epoch upto base rs =
    Begin run epoch upto ∷ map (λ p. Base p.0 p.1) base ++ kept_records 1 (take (upto - 1) rs) ++ Checked ∷ map (λ r. Plain r) (drop (upto - 1) rs)

abbrev pub file_records : List LogRecord → List FileRecord
file_records (Check run epoch upto base ∷ rs) = checked_records run epoch upto base rs
file_records log = map (λ r. Plain r) log

-- those of the checkpoint of a log: also of one without records
abbrev pub check_records : ℕ → List LogRecord → List FileRecord
check_records shard [] = Begin 0 0 0 ∷ Checked ∷ []
check_records shard (r ∷ rs) = file_records (check shard (r ∷ rs))
