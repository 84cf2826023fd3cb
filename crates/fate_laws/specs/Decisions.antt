-- What is decided once is decided for good.
use Rattle.std.specs.Prelude.{◌≡◌, ℕ, ◌<◌, Bool, true, false, List}
use Rattle.clv_base.specs.declared.names.TxId.{TxId}
use Rattle.clv_base.specs.declared.logs.LogRecord.{LogRecord}
use Rattle.clv_base.specs.declared.messages.Message.TheVariants.{Decide}
use Rattle.clv_base.specs.declared.events.Event.TheVariants.{Request as RequestEvent}
use Rattle.clv_base.specs.declared.events.Outcome.TheVariants.{Asked, Sent}
use Rattle.clv_base.specs.declared.events.Entry.{Entry}
use Rattle.clv_base.specs.Shards.{shard_count}
use Rattle.clv_base.specs.Logs.{committed_in}
use Rattle.clv_base.specs.LogRules.{log_of}
use Rattle.clv_base.specs.Restarts.{run_after}
use Rattle.clv_base.specs.Journals.{History}
use Rattle.clv_base.specs.History.{IsAmong, logs_left}
use Rattle.history_laws.specs.Openings.{LegalFrom}

-- some shard sent word of the decision on the transaction to another: a commit, or an abort
abbrev pub IsTold : History → TxId → Bool → Type 0
IsTold h tx commit = (n : ℕ) × (e : Entry) × (to : ℕ) × (home : ℕ) × IsAmong n e h × (e.outcome ≡ Sent (Decide to tx home commit))

-- the shard is the transaction's home: it took its request
abbrev pub IsHome : History → TxId → ℕ → Type 0
IsHome h tx home = (e : Entry) × (touched : List (ℕ × ℕ)) × IsAmong home e h × (e.event ≡ RequestEvent tx touched) × (e.outcome ≡ Asked)

-- the transaction's COMMIT is in the log of the shard that a crash leaves
abbrev pub is_left : List ℕ → List (List LogRecord) → History → List (List LogRecord) → (ℕ → Bool) → ℕ → TxId → Bool
is_left splits before h after choice n tx = committed_in (log_of (logs_left splits before h after choice) n) tx

-- where a COMMIT of a transaction of this run is left on any shard, one is left at its home
abbrev pub CommitsStandAtHome : Type 0
CommitsStandAtHome =
    (splits : List ℕ) (before : List (List LogRecord)) (h : History) (after : List (List LogRecord)) (choice : ℕ → Bool) (n : ℕ) (tx : TxId)
    → LegalFrom splits before h after → n < shard_count splits → tx.run ≡ run_after before
    → is_left splits before h after choice n tx ≡ true → (home : ℕ) × IsHome h tx home × (is_left splits before h after choice home tx ≡ true)

-- where a commit of a transaction of this run is told, the COMMIT at the home stays, whatever a crash keeps
abbrev pub ToldCommitsStay : Type 0
ToldCommitsStay =
    (splits : List ℕ) (before : List (List LogRecord)) (h : History) (after : List (List LogRecord)) (choice : ℕ → Bool) (home : ℕ) (tx : TxId)
    → LegalFrom splits before h after → tx.run ≡ run_after before
    → IsTold h tx true → IsHome h tx home → is_left splits before h after choice home tx ≡ true

-- where an abort of one is told, no shard has a COMMIT of it then or ever after
abbrev pub ToldAbortsStay : Type 0
ToldAbortsStay =
    (splits : List ℕ) (before : List (List LogRecord)) (h : History) (after : List (List LogRecord)) (choice : ℕ → Bool) (n : ℕ) (tx : TxId)
    → LegalFrom splits before h after → n < shard_count splits → tx.run ≡ run_after before
    → IsTold h tx false → is_left splits before h after choice n tx ≡ false
