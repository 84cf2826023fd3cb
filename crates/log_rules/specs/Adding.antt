-- An index after one more record.
use Rattle.std.specs.Prelude.{◌≡◌, ℕ, Bool, true, false, not, ◌&&◌, ◌||◌, ◌==◌, List, [], ◌∷◌, ◌++◌, length, Some, is_some, if◌then◌else◌}
use Rattle.clv_base.specs.declared.names.TxId.{TxId}
use Rattle.clv_base.specs.declared.logs.LogRecord.{LogRecord}
use Rattle.clv_base.specs.declared.logs.LogRecord.TheVariants.{Update, Clr, Prepare, Commit, Abort, End, Restart, Add, Unadd, Forgotten, Check}
use Rattle.clv_base.specs.declared.changes.Change.{Change}
use Rattle.clv_base.specs.declared.changes.Change.TheVariants as changes
use Rattle.clv_base.specs.Orders.{tx_same, tx_in}
use Rattle.log_analysis.specs.Facts.{Knows}
use Rattle.log_rules.specs.declared.index.Index.{Index}
use Rattle.log_rules.specs.Writes.{write_at, newest_by, PushesAt, Pops, Settles}
use Rattle.log_rules.specs.Listers.{listers_in, ListsAll}
use Rattle.log_rules.specs.Rules.{has_commit}

-- what a record leaves as it is, beside what is said of each kind
pub record KeepsRestart (old new : Index) : Type 0 where
  pub shard : new.shard ≡ old.shard
  pub last : new.last ≡ old.last
  pub restart_at : new.restart_at ≡ old.restart_at
  pub facts : new.facts ≡ old.facts

pub record AddsRestart (old new : Index) (n run epoch : ℕ) : Type 0 where
  pub shard : new.shard ≡ old.shard
  pub last : new.last ≡ Some (run, epoch)
  pub restart_at : new.restart_at ≡ n
  pub facts : new.facts ≡ old.facts
  pub writes : new.writes ≡ old.writes
  pub listers : new.listers ≡ old.listers
  pub barring : new.barring ≡ old.barring

pub record AddsWrite (old new : Index) (n : ℕ) (tx : TxId) (key : ℕ) (change : Change) : Type 0 where
  pub keeps : KeepsRestart old new
  pub records : new.writes.records ≡ old.writes.records
  pub writes : PushesAt old.writes new.writes n tx key change
  pub listers : new.listers ≡ old.listers
  pub barring : (t : TxId) → tx_in t new.barring ≡ (if tx_same tx t then true else tx_in t old.barring)

pub record AddsUndo (old new : Index) (tx : TxId) : Type 0 where
  pub keeps : KeepsRestart old new
  pub records : new.writes.records ≡ old.writes.records
  pub writes : Pops old.writes new.writes tx (write_at old.writes (newest_by old.writes tx))
  pub listers : new.listers ≡ old.listers
  pub barring : (t : TxId) → tx_in t new.barring ≡ (if tx_same tx t then is_some (newest_by new.writes tx) && tx_in t old.barring else tx_in t old.barring)

pub record AddsPrepare (old new : Index) (tx : TxId) (home : ℕ) (listed : List TxId) : Type 0 where
  pub keeps : KeepsRestart old new
  pub writes : new.writes ≡ old.writes
  pub listers : ListsAll old.listers new.listers tx listed
  pub barring : (t : TxId) → tx_in t new.barring ≡ (if tx_same tx t then (home == old.shard) && tx_in t old.barring else tx_in t old.barring)

pub record AddsCommit (old new : Index) (n : ℕ) (tx : TxId) : Type 0 where
  pub keeps : KeepsRestart old new
  pub writes : Settles old.writes new.writes n tx
  pub listers : new.listers ≡ old.listers
  pub barring : (t : TxId) → tx_in t new.barring ≡ (if tx_same tx t then false else tx_in t old.barring)

-- whether one that is no longer held bars a RESTART
abbrev pub bars_after_abort : Index → TxId → Bool
bars_after_abort x tx = is_some (newest_by x.writes tx) && not (has_commit x tx)

pub record BarsOne (old new : Index) (tx : TxId) : Type 0 where
  pub keeps : KeepsRestart old new
  pub writes : new.writes ≡ old.writes
  pub listers : new.listers ≡ old.listers
  pub barring : (t : TxId) → tx_in t new.barring ≡ tx_in t old.barring || (tx_same tx t && bars_after_abort old tx)

pub record BarsAll (old new : Index) (txs : List TxId) : Type 0 where
  pub keeps : KeepsRestart old new
  pub writes : new.writes ≡ old.writes
  pub listers : new.listers ≡ old.listers
  pub barring : (t : TxId) → tx_in t new.barring ≡ tx_in t old.barring || (tx_in t txs && bars_after_abort old t)

pub record AddsAbort (old new : Index) (tx : TxId) : Type 0 where
  pub keeps : KeepsRestart old new
  pub writes : new.writes ≡ old.writes
  pub listers : new.listers ≡ old.listers
  pub barring : (t : TxId) → tx_in t new.barring ≡ (if tx_same tx t then true else tx_in t old.barring || (tx_in t (listers_in old.listers tx) && bars_after_abort old t))

pub record AddsEnd (old new : Index) : Type 0 where
  pub keeps : KeepsRestart old new
  pub writes : new.writes ≡ old.writes
  pub listers : new.listers ≡ old.listers
  pub barring : new.barring ≡ old.barring

-- what is known beside the facts
abbrev pub Places : Index → Index → ℕ → LogRecord → Type 0
Places old new n (Restart run epoch) = AddsRestart old new n run epoch
Places old new n (Update tx key before after) = AddsWrite old new n tx key (changes.Sets before after)
Places old new n (Clr tx undo_next key after) = AddsUndo old new tx
Places old new n (Prepare tx home predecessors) = AddsPrepare old new tx home predecessors
Places old new n (Commit tx parts) = AddsCommit old new n tx
Places old new n (Abort tx) = AddsAbort old new tx
Places old new n (End tx) = AddsEnd old new
Places old new n (Add tx key by) = AddsWrite old new n tx key (changes.Adds by)
Places old new n (Unadd tx undo_next key by) = AddsUndo old new tx
Places old new n Forgotten = AddsEnd old new
Places old new n (Check run' epoch' upto base) = AddsEnd old new

-- after a record: first all beside the facts, and then these
pub record Adds (old new : Index) (n : ℕ) (r : LogRecord) : Type 0 where
  pub between : Index
  pub places : Places old between n r
  pub rest : new ≡ record between { facts = new.facts }
  pub facts : (log : List LogRecord) → length log ≡ n → Knows between.facts log → Knows new.facts (log ++ r ∷ [])
