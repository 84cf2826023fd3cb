-- What the checkpoint of a log keeps of it.
use Rattle.std.specs.Prelude.{◌≡◌, ⊤, ℕ, Bool, true, false, not, ◌||◌, length, List, [], ◌∷◌, ◌++◌}
use Rattle.std.specs.List.{AllByRecursion, filter}
use Rattle.clv_base.specs.declared.logs.LogRecord.{LogRecord}
use Rattle.clv_base.specs.declared.logs.LogRecord.TheVariants.{Update, Clr, Prepare, Commit, Restart, Add, Unadd, Check}
use Rattle.clv_base.specs.Logs.{StandingUpdate, is_setting, committed_in, prepared_in, aborted_in, has_standing, prepare_of, standing, in_doubt, base_of, stands}
use Rattle.clv_base.specs.LogRules.{last_restart}
use Rattle.clv_base.specs.declared.names.TxId.{TxId}
use Rattle.clv_base.specs.Folding.{IsRising}
use Rattle.clv_base.specs.Restarts.{restart_records}
use Rattle.clv_base.specs.Checkpoints.{is_away, check, committed_map, no_restart}

-- a log begins with a RESTART or a checkpoint, as each log in order does that has records
abbrev pub IsFirst : LogRecord → Type 0
IsFirst (Restart run epoch) = ⊤
IsFirst (Check run epoch upto base) = ⊤
IsFirst _ = ⊥

abbrev pub Begins : List LogRecord → Type 0
Begins [] = ⊤
Begins (r ∷ rs) = IsFirst r

abbrev pub CheckpointsLeaveTheOpen : Type 0
CheckpointsLeaveTheOpen =
    (shard : ℕ) (log : List LogRecord) → Begins log → standing (check shard log) ≡ filter (λ w. not (committed_in log w.tx)) (standing log)

abbrev pub CheckpointsKeepTheMap : Type 0
CheckpointsKeepTheMap =
    (shard : ℕ) (log : List LogRecord) → Begins log
    → (committed_map (check shard log) ≡ committed_map log) × (no_restart (last_restart (check shard log)) ≡ no_restart (last_restart log)) × (length (check shard log) ≡ length log)

abbrev pub CheckpointsStandAlike : Type 0
CheckpointsStandAlike =
    (shard : ℕ) (log : List LogRecord) → Begins log → IsRising (base_of log) → stands (check shard log ∷ []) ≡ stands (log ∷ [])

-- behind the first records each PREPARE is its transaction's first
abbrev pub IsNew : List LogRecord → LogRecord → Type 0
IsNew before (Prepare tx home predecessors) = prepared_in before tx ≡ false
IsNew before _ = ⊤

abbrev pub PreparesOnce : List LogRecord → List LogRecord → Type 0
PreparesOnce before [] = ⊤
PreparesOnce before (r ∷ rs) = IsNew before r × PreparesOnce (before ++ r ∷ []) rs

abbrev pub CheckpointsCheckOnce : Type 0
CheckpointsCheckOnce =
    (shard : ℕ) (log : List LogRecord) → Begins log → PreparesOnce [] log → check shard (check shard log) ≡ check shard log

-- of who is prepared, and neither committed nor aborted, a write stands
abbrev pub PreparedStand : List LogRecord → Type 0
PreparedStand log = (t : TxId) → prepared_in log t ≡ true → committed_in log t ≡ false → aborted_in log t ≡ false → has_standing log t ≡ true

abbrev pub CheckpointsRestartAlike : Type 0
CheckpointsRestartAlike =
    (shard : ℕ) (log : List LogRecord) → Begins log → PreparesOnce [] log → PreparedStand log
    → (in_doubt shard (check shard log) ≡ in_doubt shard log)
    × ((run epoch : ℕ) → restart_records shard (check shard log) run epoch ≡ restart_records shard log run epoch)

-- a record makes or undoes a write of one that isn't committed in a log
abbrev pub Moves : List LogRecord → LogRecord → Type 0
Moves log (Update tx key before after) = committed_in log tx ≡ false
Moves log (Add tx key by) = committed_in log tx ≡ false
Moves log (Clr tx undo_next key after) = committed_in log tx ≡ false
Moves log (Unadd tx undo_next key by) = committed_in log tx ≡ false
Moves log _ = ⊤

-- in writes, the newest first: under a write of one of these, all of its key are of these, but that an ADD may stand over ADDs
abbrev pub LieOn : (TxId → Bool) → List StandingUpdate → Type 0
LieOn these [] = ⊤
LieOn these (w ∷ ws) = (these w.tx ≡ true → AllByRecursion (λ v. v.key ≡ w.key → (is_setting v.change || is_setting w.change) ≡ true → these v.tx ≡ true) ws) × LieOn these ws

abbrev pub CheckpointsGoOn : Type 0
CheckpointsGoOn =
    (shard : ℕ) (log more : List LogRecord) → Begins log → IsRising (base_of log) → AllByRecursion (Moves log) more → LieOn (committed_in log) (standing (log ++ more))
    → (standing (check shard log ++ more) ≡ filter (λ w. not (committed_in log w.tx)) (standing (log ++ more)))
    × (committed_map (check shard log ++ more) ≡ committed_map (log ++ more))

-- the transaction is neither committed, nor prepared, nor aborted in a log
abbrev pub IsUnclosed : List LogRecord → TxId → Type 0
IsUnclosed log tx = (committed_in log tx ≡ false) × (prepared_in log tx ≡ false) × (aborted_in log tx ≡ false)

-- what a record that comes behind a log in order doesn't ask of what its checkpoint lets go: who writes or prepares is unclosed, and who is listed
-- isn't committed; and a COMMIT of one that is prepared for another home comes only where a write of it stands
abbrev pub GoesOn : ℕ → List LogRecord → LogRecord → Type 0
GoesOn shard log (Update tx key before after) = IsUnclosed log tx
GoesOn shard log (Add tx key by) = IsUnclosed log tx
GoesOn shard log (Clr tx undo_next key after) = committed_in log tx ≡ false
GoesOn shard log (Unadd tx undo_next key by) = committed_in log tx ≡ false
GoesOn shard log (Prepare tx home predecessors) =
    (committed_in log tx ≡ false) × (prepared_in log tx ≡ false) × AllByRecursion (λ p. committed_in log p ≡ false) predecessors
GoesOn shard log (Commit tx parts) =
    (committed_in log tx ≡ false) × (prepared_in log tx ≡ true → has_standing log tx ≡ false → is_away shard (prepare_of log tx) ≡ false)
GoesOn shard log _ = ⊤

abbrev pub CheckpointsStayAlike : Type 0
CheckpointsStayAlike =
    (shard : ℕ) (log more : List LogRecord) → Begins log → PreparesOnce [] log → IsRising (base_of log) → AllByRecursion (GoesOn shard log) more → LieOn (committed_in log) (standing (log ++ more))
    → check shard (check shard log ++ more) ≡ check shard (log ++ more)
