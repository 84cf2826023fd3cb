-- What the order rules make of a log.
use Rattle.std.specs.Prelude.{◌≡◌, ⊤, ◌≤◌, ℕ, Bool, true, false, ◌||◌, List, [], ◌∷◌, ◌++◌, Option, Some, None, take}
use Rattle.std.specs.List.{AllByRecursion, list_any}
use Rattle.clv_base.specs.declared.names.TxId.{TxId}
use Rattle.clv_base.specs.declared.logs.LogRecord.{LogRecord}
use Rattle.clv_base.specs.declared.logs.LogRecord.TheVariants.{Update, Clr, Prepare, Add, Unadd}
use Rattle.clv_base.specs.Logs.{StandingUpdate, is_setting, is_undo_of, standing, committed_in, prepared_in, aborted_in, own_tx}
use Rattle.clv_base.specs.LogRules.{may_undo, upto_of, disorder}
use Rattle.clv_base.specs.Restarts.{greatest_run}

-- whether a CLR or UNADD of the transaction is in a log
abbrev pub undone_in : List LogRecord → TxId → Bool
undone_in log t = list_any (is_undo_of t) log

-- whose write a record makes or undoes
abbrev pub moves : LogRecord → Option TxId
moves (Update tx key before after) = Some tx
moves (Clr tx undo_next key after) = Some tx
moves (Add tx key by) = Some tx
moves (Unadd tx undo_next key by) = Some tx
moves _ = None

abbrev pub Open_at : List LogRecord → Option TxId → Type 0
Open_at before None = ⊤
Open_at before (Some t) = committed_in before t ≡ false

-- behind the first records none makes or undoes a write of a transaction whose COMMIT stands before it
abbrev pub Tidy : List LogRecord → List LogRecord → Type 0
Tidy before [] = ⊤
Tidy before (r ∷ rs) = Open_at before (moves r) × Tidy (before ++ r ∷ []) rs

-- whether an UPDATE's, an ADD's or a PREPARE's transaction has no PREPARE yet
abbrev pub Unprepared : List LogRecord → LogRecord → Type 0
Unprepared before (Update tx key left right) = prepared_in before tx ≡ false
Unprepared before (Add tx key by) = prepared_in before tx ≡ false
Unprepared before (Prepare tx home predecessors) = prepared_in before tx ≡ false
Unprepared before _ = ⊤

-- behind the first records no UPDATE, no ADD and no PREPARE is of a transaction whose PREPARE stands before it
abbrev pub Sealed : List LogRecord → List LogRecord → Type 0
Sealed before [] = ⊤
Sealed before (r ∷ rs) = Unprepared before r × Sealed (before ++ r ∷ []) rs

-- whose write a record undoes
abbrev pub undoes : LogRecord → Option TxId
undoes (Clr tx undo_next key after) = Some tx
undoes (Unadd tx undo_next key by) = Some tx
undoes _ = None

abbrev pub May_undo_at : List LogRecord → Option TxId → Type 0
May_undo_at before None = ⊤
May_undo_at before (Some t) = may_undo before t ≡ true

-- behind the first records each CLR and UNADD is of a transaction that is aborted before it, or neither prepared nor committed before it
abbrev pub Undoable : List LogRecord → List LogRecord → Type 0
Undoable before [] = ⊤
Undoable before (r ∷ rs) = May_undo_at before (undoes r) × Undoable (before ++ r ∷ []) rs

-- in writes, the newest first: under a write of one of these, all of its key are of these, but that an ADD may stand over ADDs
abbrev pub LieOnThese : (TxId → Bool) → List StandingUpdate → Type 0
LieOnThese these [] = ⊤
LieOnThese these (w ∷ ws) = (these w.tx ≡ true → AllByRecursion (λ v. v.key ≡ w.key → (is_setting v.change || is_setting w.change) ≡ true → these v.tx ≡ true) ws) × LieOnThese these ws

-- the transaction of a record is of no later run
abbrev pub OfRun : ℕ → Option TxId → Type 0
OfRun run None = ⊤
OfRun run (Some tx) = tx.run ≤ run

abbrev pub RunFits : ℕ → LogRecord → Type 0
RunFits run r = OfRun run (own_tx r)

-- ---- the laws

abbrev pub NothingAfterCommit : Type 0
NothingAfterCommit = (shard : ℕ) (log : List LogRecord) → disorder shard log ≡ None → Tidy [] log

abbrev pub NothingAfterPrepare : Type 0
NothingAfterPrepare = (shard : ℕ) (log : List LogRecord) → disorder shard log ≡ None → Sealed [] log

abbrev pub UndoneAreOpen : Type 0
UndoneAreOpen = (shard : ℕ) (log : List LogRecord) → disorder shard log ≡ None → Undoable [] log

abbrev pub AbortedAreUncommitted : Type 0
AbortedAreUncommitted = (shard : ℕ) (log : List LogRecord) (t : TxId) → disorder shard log ≡ None → aborted_in log t ≡ true → committed_in log t ≡ false

abbrev pub CommittedLieOnCommitted : Type 0
CommittedLieOnCommitted = (shard : ℕ) (log : List LogRecord) → disorder shard log ≡ None → LieOnThese (committed_in log) (standing log)

abbrev pub RunsAreThoseOfRestarts : Type 0
RunsAreThoseOfRestarts = (shard : ℕ) (log : List LogRecord) → disorder shard log ≡ None → AllByRecursion (RunFits (greatest_run log)) log

abbrev pub FrontsKeepOrder : Type 0
FrontsKeepOrder = (shard n : ℕ) (log : List LogRecord) → upto_of log ≤ n → disorder shard log ≡ None → disorder shard (take n log) ≡ None
